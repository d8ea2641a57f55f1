use Rattle.std.proofs.Common.{◌≡◌, ◌+◌, ◌*◌, ◌^◌, ◌≤◌, drop}
use Rattle.seek.specs.Travel.{travel_from}
use Rattle.seek.proofs.travel.travel.Given as goal

-- the way so far with what is left of it is the whole way
abbrev pub invariant-loop-run : goal.invariant-loop-run
invariant-loop-run l = (l.total + travel_from l.arm (drop l.run-index l.runs) ≡ travel_from 0 l.runs) × (l.total ≤ l.run-index * 2 ^ 32)
