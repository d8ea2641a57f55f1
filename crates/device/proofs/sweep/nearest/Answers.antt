use Rattle.std.proofs.Common.{◌≡◌, ℕ, ◌<◌, List, length, get_or, take, subst, ◌∙◌, arith, MatchOption}
use Rattle.std.proofs.lemmas.List.{length-take, get_or-take}
use Rattle.order.specs.declared.keys.Distance.{Distance}
use Rattle.values.specs.declared.io.Run.{Run}
use Rattle.device.specs.Runs.{runs_of}
use Rattle.device.specs.Sweeps.{distance_at, Nearest}
use Rattle.device.proofs.Sweeping.{nearest_from, only_nearest}
use Rattle.device.proofs.sweep.nearest.Goals as goal

pub returns : goal.returns
returns c =
    let arm = c.args.arm in
    let runs = c.as_slice-runs.result.now in
    let n : ℕ = length runs in
    let ks : List Distance = take n c.loop-place.keys in
    let same = c.loop-place.invariant.0 in
    let fits = c.loop-place.invariant.1 in
    let wide = c.loop-place.invariant.2 in
    let many : length ks ≡ length runs = simp length-take (omega (arith, fits, wide)) in
    let keys : (k : ℕ) (z : Distance) (d : Run) → k < length runs → get_or ks k z ≡ distance_at arm runs k d = λ k z d lt. get_or-take n c.loop-place.keys k z (omega arith) ∙ c.loop-place.invariant.3 k z d (omega arith) in
    let place = c.least.result in
    let h = nearest_from arm runs ks many keys place c.least.ensures in
    let chosen = subst (λ rs. MatchOption place (length rs ≡ 0) (Nearest arm rs)) same h in
    record { chosen = chosen; only = only_nearest arm (runs_of c.args.runs.now) place chosen }
