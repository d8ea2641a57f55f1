use Rattle.std.proofs.Common.{sym, subst}
use Rattle.service.specs.Sound.{Numbers}
use Rattle.service.proofs.Facts.{end_keeps}
use Rattle.service.proofs.service.Service.end.Goals as goal

pub invariant_of-self : goal.invariant_of-self
invariant_of-self g c = record { sound = subst Numbers (sym c.end.ensures.leaves) (end_keeps _ c.args.self.now.sound c.args.name) }
