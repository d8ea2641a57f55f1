use Rattle.std.proofs.Common.{sym, subst}
use Rattle.service.specs.Sound.{Numbers}
use Rattle.service.proofs.Facts.{open_keeps}
use Rattle.service.proofs.service.Service.open.Goals as goal

pub invariant_of-self : goal.invariant_of-self
invariant_of-self g c = record { sound = subst Numbers (sym c.open.ensures.leaves) (open_keeps _ c.args.self.now.sound _ _ c.args.rates c.args.present.lawful) }
