use Rattle.std.proofs.Common.{inl, ap, ◌∙◌, arith}
use Rattle.seek.specs.declared.lines.Lines.{Lines}
use Rattle.seek.proofs.Reading.{reading_none}
use Rattle.seek.proofs.text.read_requests.Goals as goal

pub loop-line-init : goal.loop-line-init
loop-line-init c =
    let made = c.into_iter-line-iterator.ensures.into_iter_gives in
    let lines = c.enumerate-line-items.ensures in
    let read = reading_none _ _ _ _ _ (ap (λ e. e.count) made ∙ lines.count) (ap (λ e. e.iter.left.now) made ∙ (ap (λ (s : Lines). s.left.now) lines.source ∙ c.new-3.ensures)) c.new.ensures.items c.new-2.ensures.items in
    record { can = (tt, tt, inl (omega (arith, read.within))); finite = tt; read = read }
