use Rattle.std.proofs.Common.{rules}
use Rattle.choosing.proofs.Filling.{picked}
use Rattle.choosing.specs.Free.{free_in}
use Rattle.choosing.specs.Spare.{session_key}
use Rattle.order.specs.Keys.{level_before}
use Rattle.choosing.proofs.view.FreePlaces.session_choice.Goals as goal

pub returns : goal.returns
returns g c = picked _ (session_key (g.R.SharingRule.level c.args.rule.now) c.args.self.now.tables.now (free_in c.args.self.now.free) c.args.self.now.present.micros c.args.pool) _ (λ i y q called. (search rules, search rules)) _ _ c.from_fn-keys.ensures.items level_before _ c.least_candidate.ensures.is
