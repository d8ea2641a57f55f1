use Rattle.std.proofs.Common.{vec_items}
use Rattle.seek.proofs.Serving.{Turning}
use Rattle.seek.proofs.serve.serve.Given as goal

abbrev pub invariant-loop : goal.invariant-loop
invariant-loop g l = Turning g.D.Device.means g.D.Device.puts g.D.Device.works g.D.Device.takes g.met.D.Device.deep g.met.D.Steady.steady l.initial.device l.runs l.index l.rest (vec_items l.served) l.device
