use Rattle.std.proofs.Common.{◌≡◌}
use Rattle.line.proofs.Taking.{Taking}
use Rattle.line.proofs.Line.keep_but_first.Given as goal

abbrev pub invariant-loop-i : goal.invariant-loop-i
invariant-loop-i g l = (l.self.len ≡ l.initial.self.len) × (l.self.places.ghost_name ≡ l.initial.self.places.ghost_name) × Taking g.T.Owned.owner l.owner l.count l.end l.initial.self.places.now l.self.places.now l.kept_len l.left l.i
