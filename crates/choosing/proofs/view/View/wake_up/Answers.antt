use Rattle.std.proofs.Common.{◌≡◌, length, map, Option, None, min, filter_map, zip, sym, ap, ◌∙◌, arith, rules, tests}
use Rattle.choosing.proofs.Earliest.{least_of_chain}
use Rattle.choosing.proofs.Waking.{wakes_right}
use Rattle.choosing.specs.Views.{seen}
use Rattle.choosing.specs.Wake.{row_wake_key, wake_key, earliest}
use Rattle.heads.specs.Heads.{head_says}
use Rattle.heads.specs.declared.head.Head.{Head}
use Rattle.service.specs.Rows.{blank_session}
use Rattle.service.specs.declared.rows.Session.{Session}
use Rattle.std.proofs.lemmas.Iterator.{YieldsList-from_slice, YieldsList-from_zip}
use Rattle.std.proofs.lemmas.Iterator.Consumers.{YieldsList-at, YieldsList-from_filter_map, min_from_yields_List}
use Rattle.std.proofs.lemmas.List.{get_or-map, length-map}
use Rattle.std.proofs.lemmas.List.FromFn.{fill_by_all}
use Rattle.std.proofs.lemmas.Slice.Zip.{length-zip, get_or-zip}
use Rattle.std.specs.List.{range_with_len, reduce}
use Rattle.std.proofs.lemmas.Iterator.Adapters.{option_map_id}
use Rattle.std.specs.Option.{option_map}
use Rattle.choosing.proofs.view.View.wake_up.Goals as goal

pub returns : goal.returns
returns c =
    let v = c.args.self.now in
    let m = seen v in
    let sessions = v.tables.now.sessions in
    let heads = v.heads.now in
    let key = λ (p : Session × Option Head). row_wake_key m.tables m.micros p.0 (option_map head_says p.1) in
    let places = YieldsList-from_zip {s = c.zip-places.result} (YieldsList-at c.zip-places.ensures.first (YieldsList-from_slice sessions c.iter.ensures.rest)) (YieldsList-from_slice heads (search rules)) in
    let ran : c.min.result ≡ reduce min (filter_map key (zip sessions heads)) =
    sym (option_map_id _) ∙ min_from_yields_List c.filter_map.result _ c.min.ensures.ran (YieldsList-from_filter_map _ key (YieldsList-at c.filter_map.ensures.source places) c.filter_map.ensures.closure (λ x r q k. search (rules, tests))) in
    let wide : length sessions ≡ 64 = search rules in
    let deep : length heads ≡ 64 = search rules in
    let pairs = zip sessions heads in
    let long : length pairs ≡ 64 = length-zip sessions heads ∙ (λ i. min (wide i) (deep i)) in
    let same : map key pairs ≡ map (wake_key m.tables m.heads m.micros) (range_with_len 0 64) =
    fill_by_all (wake_key m.tables m.heads m.micros) (map key pairs) 64 None (length-map pairs key ∙ long)
    (λ k lt. get_or-map key pairs k (blank_session, None) None (omega (arith, long)) ∙ ap key (get_or-zip sessions heads k (blank_session, None) (omega (arith, wide)) (omega (arith, deep)))) in
    let is = ran ∙ (least_of_chain key pairs ∙ ap earliest same) in
    record { is = is; right = wakes_right m _ is }
