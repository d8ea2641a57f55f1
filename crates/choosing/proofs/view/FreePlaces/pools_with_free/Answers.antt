use Rattle.std.proofs.Common.{ap, ◌∙◌, rules, length, false}
use Rattle.choosing.specs.Free.{free_in}
use Rattle.choosing.specs.Picks.{some_of}
use Rattle.choosing.specs.Spare.{is_free_in}
use Rattle.choosing.proofs.Agreeing.{some_more}
use Rattle.service.specs.Rows.{blank_session}
use Rattle.std.proofs.lemmas.List.{length-append}
use Rattle.std.proofs.lemmas.Slice.Zip.{zip_turn, zip_end}
use Rattle.choosing.proofs.view.FreePlaces.pools_with_free.Goals as goal

pub loop-row-init : goal.loop-row-init
unfolding some_of
loop-row-init c = search rules

pub loop-row-preserved : goal.loop-row-preserved
loop-row-preserved c = λ p l.
    let v = c.args.self.now in
    let turn = zip_turn v.tables.now.sessions v.free c.loop-row.yielded c.into_iter-row-iterator.result c.loop-row.row-iterator c.next.new.self c.next.result (search rules) (search rules) c.loop-row.yielded_by (c.in-Some.row, c.in-Some.free) c.in-Some.is c.next.ensures.steps in
    let row = turn.2 blank_session in
    let free = turn.3 false in
    some_more (is_free_in v.tables.now (free_in v.free) p) (length c.loop-row.yielded) _ _ _ _ (c.loop-row.invariant p l) (cc) (c.note.ensures p l) (search (rules, length-append))

pub returns : goal.returns
returns c = λ p l.
    let v = c.args.self.now in
    let all = zip_end v.tables.now.sessions v.free c.loop-row.yielded c.into_iter-row-iterator.result c.loop-row.row-iterator c.next.new.self c.next.result (search rules) (search rules) c.loop-row.yielded_by c.in-None.is c.next.ensures.steps in
    c.loop-row.invariant p l ∙ ap (λ n. some_of n (is_free_in v.tables.now (free_in v.free) p)) (search (rules, all))
