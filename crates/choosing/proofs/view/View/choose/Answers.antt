use Rattle.std.proofs.Common.{◌≡◌, ◌∙◌}
use Rattle.choosing.proofs.Agreeing.{same_chosen}
use Rattle.choosing.proofs.Rightly.{is_right, in_table, sendable}
use Rattle.choosing.specs.Chosen.{chosen_of, chosen}
use Rattle.choosing.specs.Free.{free_in, is_free_to_go}
use Rattle.choosing.specs.Views.{seen}
use Rattle.choosing.proofs.view.View.choose.Goals as goal

pub returns : goal.returns
returns g c =
    let level = g.R.SharingRule.level c.args.rule.now in
    let m = seen c.args.self.now in
    let free = free_in c.free_places.result.free in
    let same = c.free_places.ensures.same in
    let is : c.choice.result ≡ chosen level m.tables m.heads m.micros =
    c.choice.ensures ∙ ((λ i. chosen_of level (same.0 i) free (same.1 i).micros) ∙ same_chosen level m.tables free (is_free_to_go m.tables m.heads m.micros) c.free_places.ensures.free m.micros) in
    let right = is_right level m _ is in
    record { is = is; right = right; within = in_table level m _ right; sendable = sendable level m _ right }
