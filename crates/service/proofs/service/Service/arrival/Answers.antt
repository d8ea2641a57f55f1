use Rattle.std.proofs.Common.{sym, subst}
use Rattle.service.specs.Sound.{Numbers}
use Rattle.service.proofs.Facts.{arrival_keeps}
use Rattle.service.proofs.service.Service.arrival.Goals as goal

pub invariant_of-self : goal.invariant_of-self
invariant_of-self g c = record { sound = subst Numbers (sym c.arrival.ensures.leaves) (arrival_keeps _ c.args.self.now.sound _ c.args.io) }
