use Rattle.std.proofs.Common.{rules}
use Rattle.choosing.proofs.Filling.{picked}
use Rattle.choosing.specs.Due.{due_key}
use Rattle.choosing.specs.Free.{free_in}
use Rattle.order.specs.Keys.{mark_before}
use Rattle.order.specs.Order.{then_by}
use Rattle.choosing.proofs.view.FreePlaces.due_choice.Goals as goal

pub returns : goal.returns
returns c = picked _ (due_key c.args.self.now.tables.now (free_in c.args.self.now.free) c.args.self.now.present.micros) _ (λ i y q called. (search rules, search rules)) _ _ c.from_fn-keys.ensures.items (then_by mark_before mark_before) _ c.least_candidate.ensures.is
