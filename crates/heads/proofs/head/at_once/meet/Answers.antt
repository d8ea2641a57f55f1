use Rattle.std.proofs.Common.{rules, arith}
use Rattle.heads.proofs.AtOnce.{one_met}
use Rattle.heads.proofs.head.at_once.meet.Goals as goal

pub loop-place-preserved : goal.loop-place-preserved
loop-place-preserved c =
    let place = c.loop-place.place in (
      one_met c.args.growing.now c.loop-place.growing c.args.names.now c.args.io place (search rules) (c.loop-place.invariant.1 place (omega arith)) c.met.result _ c.met.ensures c.loop-place.invariant.0,
      λ k le. search rules,
    )
