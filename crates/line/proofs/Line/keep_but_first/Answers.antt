use Rattle.std.proofs.Common.{◌≤◌, length, sym, ◌∙◌, inl, inr, ⊎_elim, arith}
use Rattle.line.proofs.Taking.{taking_out, taking_keeps, taking_all}
use Rattle.line.proofs.Line.keep_but_first.Goals as goal
use Rattle.line.proofs.Line.keep_but_first.Goals.{then-by-owner, else-by-owner}

pub loop-i-preserved : goal.loop-i-preserved
loop-i-preserved g c =
    let fit : c.args.end ≤ length c.args.self.now.places.now = omega (arith, c.requires) in
    let h = c.loop-i.invariant in
    let o = c.owned_by-by.ensures in
    elim c.if-by-owner.branch [
      | then-by-owner w ↦ rw (w.self-is, w.kept_len-is, w.left-is) (h.0, h.1, taking_keeps h.2 _ c.loop-i-test.true fit (⊎_elim inl (λ p. inr (λ e. p.1 (o ∙ e))) w.if-by-owner.either))
      | else-by-owner w ↦ rw (w.self-is, w.kept_len-is, w.left-is) (h.0, h.1, taking_out h.2 _ c.loop-i-test.true fit w.if-by-owner.false.0 (sym o ∙ w.if-by-owner.false.1))
    ]

pub returns : goal.returns
returns g c =
    let fit : c.args.end ≤ length c.args.self.now.places.now = omega (arith, c.requires) in
    let h = c.loop-i.invariant in
    let b = h.2.behind in
    let few : c.loop-i.kept_len ≤ length c.args.self.now.places.now = omega arith in
    record { same = h.1; len = (h.0, omega arith); held = taking_all h.2 c.loop-i-test.false fit few }
