use Rattle.std.proofs.Common.{◌≡◌, get_or, None, refl, ◌∙◌, arith, rules}
use Rattle.std.specs.Option.{option_map}
use Rattle.line.proofs.Arrays.{answers_at}
use Rattle.heads.proofs.AtOnce.{starts, goes_on, ends}
use Rattle.heads.specs.Heads.{head_says}
use Rattle.heads.specs.Places.{found}
use Rattle.heads.specs.declared.head.at_once.Growing.TheVariants.{Empty}
use Rattle.heads.proofs.head.at_once.heads_at_once.Goals as goal

pub loop-io-init : goal.loop-io-init
loop-io-init c = (refl, starts c.args.names.now c.args.waiting.now)

pub loop-io-preserved : goal.loop-io-preserved
loop-io-preserved c = (omega arith, λ k lt. goes_on c.loop-io.growing c.meet.new.growing c.args.names.now c.args.waiting.now c.loop-io.io-index c.io-item.result k _ c.loop-io-test.true c.io-item.is (c.meet.ensures k _ lt) (c.loop-io.invariant.1 k lt))

pub returns : goal.returns
returns c = λ k lt.
    let growing = c.loop-io.growing in
    let told = answers_at _ (λ i y. option_map head_says y ≡ found (get_or growing i Empty)) _ (λ i y q called. (search rules, search rules)) _ _ c.from_fn.ensures.items k None lt in
    told ∙ ends growing c.args.names.now c.args.waiting.now c.loop-io.io-index k _ c.loop-io-test.false (c.loop-io.invariant.1 k lt)
