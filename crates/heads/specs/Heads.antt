-- A session's head run: its first waiting I/O, and then its next ones as long as they adjoin.
use Rattle.std.specs.Prelude.{◌≡◌, ℕ, ◌+◌, ◌<◌, Bool, if◌then◌else◌, ◌&&◌, List, [], ◌∷◌, Some, None, Option, ◌==◌, nat_le, slice_index_or}
use Rattle.std.specs.Option.{option_map}
use Rattle.values.specs.Direction.{direction_number}
use Rattle.values.specs.declared.io.Io.{Io}
use Rattle.heads.specs.declared.head.Head.{Head}

-- some adjoining I/Os in plain numbers: how many, and the sectors that they cover together
pub record HeadRun : Type 0 where
  pub count : ℕ
  pub direction : ℕ
  pub address : ℕ
  pub length : ℕ

-- the I/Os of one session, in their order
abbrev pub of_session : ℕ → List Io → List Io
of_session name [] = []
of_session name (io ∷ ios) = if io.session == name then io ∷ of_session name ios else of_session name ios

-- an I/O of the same direction that begins where a run ends, and at most 64 sectors together
abbrev pub joins : HeadRun → Io → Bool
joins h io = h.direction == direction_number io.direction && (io.extent.address == h.address + h.length && nat_le (h.length + io.extent.length) 64)

-- an I/O as a run of its own, and a run with one I/O more
abbrev pub alone : Io → HeadRun
alone io = record { count = 1; direction = direction_number io.direction; address = io.extent.address; length = io.extent.length }

abbrev pub longer : HeadRun → Io → HeadRun
longer h io = record { count = h.count + 1; direction = h.direction; address = h.address; length = h.length + io.extent.length }

-- a run with the next I/Os, as long as they join
abbrev pub grow : HeadRun → List Io → HeadRun
grow h [] = h
grow h (io ∷ ios) = if joins h io then grow (longer h io) ios else h

abbrev pub grown : List Io → Option HeadRun
grown [] = None
grown (io ∷ ios) = Some (grow (alone io) ios)

-- the head run of a session, if anything of it waits
abbrev pub head_of : ℕ → List Io → Option HeadRun
head_of name waiting = grown (of_session name waiting)

-- a run so far with one I/O more of its session; none if the I/O does not join it
abbrev pub with_one : Option HeadRun → Io → Option HeadRun
with_one None io = Some (alone io)
with_one (Some h) io = if joins h io then Some (longer h io) else None

-- what a head stands for
abbrev pub head_says : Head → HeadRun
head_says h = record { count = h.count; direction = direction_number h.direction; address = h.extent.address; length = h.extent.length }

-- what comes of a run so far and the I/Os of its session behind it
abbrev pub onward : Option HeadRun → List Io → Option HeadRun
onward None ios = grown ios
onward (Some h) ios = Some (grow h ios)

-- ---- several sessions at once, by places that have a session's name or none

abbrev pub head_for : Option ℕ → List Io → Option HeadRun
head_for None waiting = None
head_for (Some name) waiting = head_of name waiting

-- what a place ends with: the run so far and, while it can grow, the I/Os behind it
abbrev pub finally : Option HeadRun → Bool → Option ℕ → List Io → Option HeadRun
finally h grows None ios = h
finally h grows (Some name) ios = if grows then onward h (of_session name ios) else h

-- each of the 64 places has the head run of its session
abbrev pub HeadsOf : List (Option ℕ) → List Io → List (Option Head) → Type 0
HeadsOf names waiting heads = (k : ℕ) → k < 64 → option_map head_says (slice_index_or heads k None) ≡ head_for (slice_index_or names k None) waiting
