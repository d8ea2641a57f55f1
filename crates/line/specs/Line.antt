-- What the calls of a line do, over plain lists: `places` is the whole lent table, `len` how many of its places are in
-- use, and a prime marks the value after the call.
use Rattle.std.specs.Prelude.{◌≡◌, ℕ, zero, suc, ◌+◌, ◌-◌, ◌<◌, ◌≤◌, Bool, if◌then◌else◌, List, [], ◌∷◌, ◌++◌, length, take, drop, Ok, Err, Result, Some, None, Option, ◌==◌, slice_index_or, slice_set}
use Rattle.std.specs.List.{remove}
use Rattle.line.specs.declared.LineFull.{LineFull}

-- the records of a line: its used places, from the first on
abbrev pub records_of : {X : Type 0} → List X → ℕ → List X
records_of places len = take len places

-- A record stands behind the last one, and every other place is as it was; or the table is full, and nothing changed.
abbrev pub Appended : {X : Type 0} → List X → ℕ → X → List X → ℕ → Result (Unit {0}) LineFull → Type 0
Appended places len added places' len' (Ok _) = (len < length places) × (len' ≡ len + 1) × (places' ≡ slice_set places len added) × (records_of places' len' ≡ records_of places len ++ added ∷ [])
Appended places len added places' len' (Err _) = (length places ≤ len) × (len' ≡ len) × (places' ≡ places)

-- the records whose flag is not set, in their order; a record with no flag stays, a flag with no record says nothing
abbrev pub unflagged : {X : Type 0} → List Bool → List X → List X
unflagged [] records = records
unflagged (flag ∷ flags) [] = []
unflagged (flag ∷ flags) (x ∷ records) = if flag then unflagged flags records else x ∷ unflagged flags records

-- The line holds just the kept records now, and every place behind them is as it was.
pub record Closed {X : Type 0} (kept places places' : List X) (len' : ℕ) : Type 0 where
  pub many : len' ≡ length kept
  pub table : places' ≡ kept ++ drop (length kept) places
  pub left : records_of places' len' ≡ kept

-- The record x stood at a place of the line, and the line is closed up without it.
pub record TakenOut {X : Type 0} (places : List X) (len at : ℕ) (x : X) (places' : List X) (len' : ℕ) : Type 0 where
  pub before : at < len
  pub is : x ≡ slice_index_or places at x
  pub shorter : len' + 1 ≡ len
  pub closed : Closed (remove (records_of places len) at) places places' len'

-- The record at a place is taken out of a line; or no record stands there, and nothing changed.
abbrev pub Removed : {X : Type 0} → List X → ℕ → ℕ → List X → ℕ → Option X → Type 0
Removed places len at places' len' None = (len ≤ at) × (len' ≡ len) × (places' ≡ places)
Removed places len at places' len' (Some x) = TakenOut places len at x places' len'

-- The same over the first places of any table, of which there may be fewer than `len`: then nothing changed too.
abbrev pub RemovedAt : {X : Type 0} → List X → ℕ → ℕ → List X → Option X → Type 0
RemovedAt places len at places' None = (at < len → length places < len) × (places' ≡ places)
RemovedAt places len at places' (Some x) = (len ≤ length places) × TakenOut places len at x places' (len - 1)

-- A record stands behind the first places of any table, and every other place is as it was; or it has no place there, and nothing changed.
abbrev pub AppendedAt : {X : Type 0} → List X → ℕ → X → List X → Result (Unit {0}) LineFull → Type 0
AppendedAt places len added places' (Ok _) = (len < length places) × (places' ≡ slice_set places len added) × (records_of places' (len + 1) ≡ records_of places len ++ added ∷ [])
AppendedAt places len added places' (Err _) = (length places ≤ len) × (places' ≡ places)

-- the records without the first n of one owner
abbrev pub without : {X : Type 0} → (X → ℕ) → ℕ → ℕ → List X → List X
without owner name n [] = []
without owner name zero (x ∷ records) = x ∷ records
without owner name (suc n) (x ∷ records) = if owner x == name then without owner name n records else x ∷ without owner name (suc n) records
