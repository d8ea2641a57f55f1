use Rattle.std.proofs.Common.{◌≡◌, ℕ, ◌<◌, ◌≤◌, List, ◌∷◌, get_or}
use Rattle.values.specs.declared.io.Io.{Io}
use Rattle.heads.specs.declared.head.at_once.Growing.TheVariants.{Empty}
use Rattle.heads.specs.Places.{final_at}
use Rattle.heads.proofs.head.at_once.meet.Given as goal

-- the places before this one have met the I/O, and the others are as they were
abbrev pub invariant-loop-place : goal.invariant-loop-place
invariant-loop-place l = ((k : ℕ) (ios : List Io) → k < l.place → final_at l.growing l.names k ios ≡ final_at l.initial.growing l.names k (l.io ∷ ios)) × ((k : ℕ) → l.place ≤ k → get_or l.growing k Empty ≡ get_or l.initial.growing k Empty)
