use Rattle.std.proofs.Common.{sym, subst}
use Rattle.service.specs.Sound.{Numbers}
use Rattle.service.proofs.Facts.{new_keeps}
use Rattle.service.proofs.service.Service.new.Goals as goal

pub invariant_of-result : goal.invariant_of-result
invariant_of-result g c = record { sound = subst Numbers (sym c.new.ensures) (new_keeps _ _) }
