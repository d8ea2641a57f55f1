use Rattle.std.proofs.Common.{◌≡◌, ℕ, ◌<◌, ◌≤◌, length, get_or}
use Rattle.order.specs.declared.keys.Distance.{Distance}
use Rattle.values.specs.declared.io.Run.{Run}
use Rattle.device.specs.Runs.{runs_of}
use Rattle.device.specs.Sweeps.{distance_at}
use Rattle.device.proofs.sweep.nearest.Given as goal

-- each place that was passed has the key of its run
abbrev pub invariant-loop-place : goal.invariant-loop-place
invariant-loop-place l = (l.runs ≡ runs_of l.fn.runs) × (length l.runs ≤ 32) × (length l.keys ≡ 32) × ((k : ℕ) (z : Distance) (d : Run) → k < l.place → get_or l.keys k z ≡ distance_at l.arm l.runs k d)
