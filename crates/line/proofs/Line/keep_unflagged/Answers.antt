use Rattle.std.proofs.Common.{◌≡◌, ◌<◌, ◌≤◌, length, sym, refl, ◌∙◌, arith}
use Rattle.line.proofs.Front.{flags_none, front_out, front_stays, flags_all}
use Rattle.line.proofs.Line.keep_unflagged.Goals as goal
use Rattle.line.proofs.Line.keep_unflagged.Goals.{then-not-is_set, else-not-is_set}

pub loop-i-init : goal.loop-i-init
loop-i-init g c = (refl, refl, omega arith, flags_none _ _)

pub loop-i-preserved : goal.loop-i-preserved
loop-i-preserved g c =
    let lt : c.loop-i.i < length c.args.self.now.places.now = omega arith in
    let h = c.loop-i.invariant in
    let flag = sym c.is_set.ensures in
    elim c.if-not-is_set.branch [
      | then-not-is_set w ↦ rw (w.self-is, w.kept_len-is) (h.0, h.1, omega arith, front_stays _ h.3 h.2 lt _ (flag ∙ w.if-not-is_set.true))
      | else-not-is_set w ↦ rw (w.self-is, w.kept_len-is) (h.0, h.1, omega arith, front_out _ h.3 h.2 lt (flag ∙ w.if-not-is_set.false))
    ]

pub returns : goal.returns
returns g c =
    let h = c.loop-i.invariant in
    let e : c.loop-i.i ≡ c.args.self.now.len = omega arith in
    let le : c.loop-i.kept_len ≤ length c.args.self.now.places.now = omega arith in
    record { same = h.1; len = (h.0, omega arith); held = flags_all _ h.3 e le }
