use Rattle.std.proofs.Common.{◌≡◌, ◌≤◌, take}
use Rattle.line.specs.Line.{unflagged}
use Rattle.line.proofs.Front.{Front}
use Rattle.line.proofs.Line.keep_unflagged.Given as goal

abbrev pub invariant-loop-i : goal.invariant-loop-i
invariant-loop-i g l = (l.self.len ≡ l.initial.self.len) × (l.self.places.ghost_name ≡ l.initial.self.places.ghost_name) × (l.kept_len ≤ l.i) × Front (unflagged l.out (take l.i l.initial.self.places.now)) l.initial.self.places.now l.self.places.now l.kept_len
