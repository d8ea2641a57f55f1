use Rattle.service.proofs.Facts.{collect_keeps}
use Rattle.service.proofs.service.Service.collect.Goals as goal

pub invariant_of-self : goal.invariant_of-self
invariant_of-self g c = record { sound = collect_keeps _ c.args.self.now.sound _ _ _ _ _ c.collect.ensures.done }
