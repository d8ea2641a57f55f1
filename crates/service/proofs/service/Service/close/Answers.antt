use Rattle.std.proofs.Common.{sym, subst}
use Rattle.service.specs.Sound.{Numbers}
use Rattle.service.proofs.Facts.{close_keeps}
use Rattle.service.proofs.service.Service.close.Goals as goal

pub invariant_of-self : goal.invariant_of-self
invariant_of-self g c = record { sound = subst Numbers (sym c.close.ensures.leaves) (close_keeps _ c.args.self.now.sound c.args.name) }
