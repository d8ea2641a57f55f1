use Rattle.seek.proofs.Filling.{Filling}
use Rattle.seek.proofs.serve.fill.Given as goal

abbrev pub invariant-loop-place : goal.invariant-loop-place
invariant-loop-place g l = Filling g.D.Device.means g.D.Device.puts l.initial.device l.runs l.place l.device
