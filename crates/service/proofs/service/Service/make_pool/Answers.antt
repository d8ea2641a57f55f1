use Rattle.std.proofs.Common.{sym, subst}
use Rattle.service.specs.Sound.{Numbers}
use Rattle.service.proofs.Facts.{pool_keeps}
use Rattle.service.proofs.service.Service.make_pool.Goals as goal

pub invariant_of-self : goal.invariant_of-self
invariant_of-self g c = record { sound = subst Numbers (sym c.make_pool.ensures.leaves) (pool_keeps _ c.args.self.now.sound _ c.args.rates c.args.present.lawful) }
