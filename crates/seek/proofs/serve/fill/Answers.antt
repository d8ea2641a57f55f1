use Rattle.std.proofs.Common.{sym, ◌∙◌}
use Rattle.seek.proofs.Filling.{took, filling_more}
use Rattle.seek.proofs.serve.fill.Goals as goal

pub loop-place-preserved : goal.loop-place-preserved
loop-place-preserved g c =
    let room = sym c.is_err.ensures.value ∙ c.if-is_err.false in
    let h = c.put.ensures in
    filling_more _ _ _ _ _ _ c.index-runs-place.result _ c.loop-place-test.true c.index-runs-place.is c.loop-place.invariant (took _ _ _ h.exact room) (took _ _ _ h.meant room)
