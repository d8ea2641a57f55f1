use Rattle.std.proofs.Common.{◌≡◌, ◌+◌, ◌≤◌, min, ltb, None, sym, refl, ap, ◌∙◌, arith}
use Rattle.device.specs.Meaning.{held_by}
use Rattle.service.specs.Moments.{Moment, moment_of}
use Rattle.std.proofs.lemmas.Bool.{cond-false, le-ltb}
use Rattle.scheduling.proofs.Chaining.{none_yet, one_more, same_most, same_latest, one_held, still_sound, past_twice, as_counted, counted}
use Rattle.scheduling.proofs.all.send_all.Goals as goal
use Rattle.scheduling.specs.Sending.{most_runs, next_choice}

pub loop-tables-init : goal.loop-tables-init
loop-tables-init g c =
    let m : Moment = moment_of c.args.tables.now c.args.waiting.now.places.now c.args.waiting.now.len (g.D.Device.means c.args.device.now) in
    let most : c.min-most.result ≡ most_runs m = c.min-most.ensures ∙ (λ i. min (c.depth.ensures i) (c.from.ensures i)) in
    (none_yet g.D.Device.puts (g.R.SharingRule.level c.args.rule.now) m c.args.device.now, c.requires.numbers, refl, c.requires.found, most, (omega arith, omega arith), refl, (refl, refl))

-- no session was free to go, and nothing changed
pub returns-in_default-clause-over : goal.returns-in_default-clause-over
returns-in_default-clause-over g c =
    let none = c.in_default.ensures.sent in
    ap (next_choice (g.R.SharingRule.level c.args.rule.now)) none.1 ∙ none.0

-- the device holds its most
pub returns-clause-over : goal.returns-clause-over
returns-clause-over g c =
    let n : Moment = moment_of c.loop-tables.tables c.loop-tables.waiting.places.now c.loop-tables.waiting.len (g.D.Device.means c.loop-tables.device) in
    let most = c.loop-tables.invariant.4 in
    let full : most_runs n ≤ held_by n.device = let held = c.held.ensures in omega (arith, most, held, c.loop-tables-test.false) in
    cond-false (ltb (held_by n.device) (most_runs n)) _ None (le-ltb _ _ full)

pub overflow_add-due : goal.overflow_add-due
overflow_add-due g c =
    let more = counted c.in-Some.was_due c.from-due.result c.from-due.ensures in
    let held = c.held.ensures in
    omega (arith, more.at_most, c.loop-tables.invariant.5, held, c.loop-tables-test.true, c.min-most.type_inv)

pub loop-tables-smaller : goal.loop-tables-smaller
loop-tables-smaller g c =
    let one = c.in-Some.ensures.sent in
    let held = one_held g.D.Device.puts (g.R.SharingRule.level c.args.rule.now) one in
    omega (arith, held, c.held.ensures, c.loop-tables-test.true)

pub loop-tables-preserved : goal.loop-tables-preserved
loop-tables-preserved g c =
    let puts = g.D.Device.puts in
    let level = g.R.SharingRule.level c.args.rule.now in
    let so_far = c.loop-tables.invariant in
    let one = c.in-Some.ensures.sent in
    let held = one_held puts level one in
    let counts = counted c.in-Some.was_due c.from-due.result c.from-due.ensures in
    let more = one_more puts level so_far.0 one in (
      as_counted more (ap (λ k. c.loop-tables.due + k) counts.is),
      still_sound puts level one so_far.1,
      same_latest puts level one ∙ so_far.2,
      c.in-Some.ensures.found,
      so_far.4 ∙ sym (same_most puts level one),
      (omega (arith, held, so_far.5), omega (arith, so_far.5, counts.at_most)),
      c.in-Some.ensures.same ∙ so_far.6,
      past_twice _ _ _ so_far.7 c.in-Some.ensures.past,
    )
