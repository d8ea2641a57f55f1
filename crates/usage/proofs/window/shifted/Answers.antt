use Rattle.std.proofs.Common.{◌≡◌, rules, ap, ◌∙◌}
use Rattle.line.proofs.Arrays.{answers_at}
use Rattle.usage.specs.Usage.{count_at, shifted}
use Rattle.usage.proofs.Windows.{shifted_is, shifted_twice}
use Rattle.usage.proofs.window.shifted.Goals as goal

pub returns : goal.returns
returns c =
    let counts = c.args.counts in
    let each = answers_at _ (λ k y. y ≡ count_at c.args.quarters counts k) _ (λ i y q called. (search rules, search rules)) _ _ c.from_fn.ensures.items in
    let e = shifted_is c.args.quarters counts c.from_fn.result (search rules) (search rules) (λ k h. each k 0 h) in
    record { is = e; again = λ m. ap (λ l. shifted m l) e ∙ shifted_twice m c.args.quarters counts }
