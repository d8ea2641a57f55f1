use Rattle.std.proofs.Common.{◌≡◌, ◌++◌, length, vec_items, sym, ap, ◌∙◌, arith}
use Rattle.std.specs.Option.{option_to_list}
use Rattle.std.proofs.lemmas.List.{append-nil}
use Rattle.seek.proofs.Serving.{turning_none, turning_more, turning_all}
use Rattle.seek.proofs.serve.serve.Goals as goal
use Rattle.seek.proofs.serve.serve.Goals.{in-Some+in_ok-push, in_default}

pub loop-init : goal.loop-init
loop-init g c = turning_none _ _ _ _ _ _ _ _ _ c.new-served.ensures.items

pub loop-preserved : goal.loop-preserved
loop-preserved g c =
    let more = turning_more g.D.Device.means g.D.Device.puts g.D.Device.works g.D.Device.takes g.met.D.Device.deep g.met.D.Steady.steady c.args.device.now c.args.runs.now c.loop.index c.loop.rest.now (vec_items c.loop.served) c.loop.device c.loop.invariant c.loop-test.true c.turn-done.result.put c.turn-done.new.device c.turn-done.result.served c.split_at.result.1.now (vec_items c.match-done.served) c.turn-done.ensures c.split_at.ensures.back in
    elim c.match-done.branch [
      | in-Some+in_ok-push w ↦ more (ap vec_items w.served-is ∙ (w.in_ok-push.ensures.items ∙ ap (λ o. vec_items c.loop.served ++ option_to_list o) (sym w.in-Some.is)))
      | in_default w ↦ more (ap vec_items w.served-is ∙ (sym (append-nil (vec_items c.loop.served)) ∙ ap (λ o. vec_items c.loop.served ++ option_to_list o) (sym w.in_default.is)))
    ]

pub returns : goal.returns
returns g c =
    let all : c.loop.index ≡ length c.args.runs.now = omega arith in
    turning_all _ _ _ _ _ _ _ _ c.loop.index _ _ _ all c.loop.invariant
