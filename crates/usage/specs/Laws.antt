-- What holds of service records whatever is sent and whenever they are read.
use Rattle.std.specs.Prelude.{◌≡◌, ℕ, ◌+◌, ◌-◌, ◌^◌, ◌<◌, ◌≤◌, List, [], ◌∷◌}
use Rattle.usage.specs.declared.ServiceRecord.{ServiceRecord}
use Rattle.usage.specs.Usage.{moved_to, one_more, quarter_of}

-- the record after it was moved to each of some quarters, one after the other
abbrev pub moved_through : List ℕ → ServiceRecord → ServiceRecord
moved_through [] r = r
moved_through (quarter ∷ quarters) r = moved_through quarters (moved_to quarter r)

-- none of some quarters is past this one
abbrev pub NonePast : ℕ → List ℕ → Type 0
NonePast last [] = Unit {0}
NonePast last (quarter ∷ quarters) = (quarter ≤ last) × NonePast last quarters

-- a record reads the same however often it was moved on in between
abbrev pub MovesCompose : Type 0
MovesCompose = (last : ℕ) (quarters : List ℕ) (r : ServiceRecord) → NonePast last quarters → moved_to last (moved_through quarters r) ≡ moved_to last r

-- moved to an instant, a record is unchanged by every other instant of the same quarter
abbrev pub SameQuarterKeeps : Type 0
SameQuarterKeeps = (t u : ℕ) (r : ServiceRecord) → quarter_of t ≡ quarter_of u → moved_to (quarter_of u) (moved_to (quarter_of t) r) ≡ moved_to (quarter_of t) r

-- below the most that a count holds, one more is exactly one more
abbrev pub ExactBelowMax : Type 0
ExactBelowMax = (count : ℕ) → count < 2 ^ 32 - 1 → one_more count ≡ count + 1
