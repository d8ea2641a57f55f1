use Rattle.std.proofs.Common.{◌≡◌, ◌-◌, length, vec_items}
use Rattle.stream.proofs.Gathering.{Gathered}
use Rattle.stream.proofs.whole.gather.Given as goal

abbrev pub invariant-loop-spelled : goal.invariant-loop-spelled
invariant-loop-spelled l = (l.reader.input.now ≡ l.input) × Gathered l.input l.reader.position (vec_items l.events)

abbrev pub decreases-loop-spelled : goal.decreases-loop-spelled
decreases-loop-spelled l = length l.input - l.reader.position
