use Rattle.std.proofs.Common.{ℕ, Some, None, false, get_or, if◌then◌else◌, ap, ◌∙◌, rules}
use Rattle.choosing.proofs.Filling.{picked, same_least}
use Rattle.choosing.specs.Free.{free_in}
use Rattle.choosing.specs.Spare.{pool_level, pool_key}
use Rattle.order.specs.Keys.{level_before}
use Rattle.choosing.proofs.view.FreePlaces.pool_choice.Goals as goal

pub returns : goal.returns
returns g c =
    let level = g.R.SharingRule.level c.args.rule.now in
    let v = c.args.self.now in
    let key = λ (p : ℕ). if get_or c.pools_with_free-has_free.result p false then Some (pool_level level v.tables.now v.present.micros p) else None in
    picked _ key _ (λ i y q called. (search rules, search rules)) _ _ c.from_fn-keys.ensures.items level_before _ c.least_candidate.ensures.is
    ∙ same_least level_before 16 key (pool_key level v.tables.now (free_in v.free) v.present.micros) (λ p l. ap (λ b. if b then Some (pool_level level v.tables.now v.present.micros p) else None) (c.pools_with_free-has_free.ensures p l))
