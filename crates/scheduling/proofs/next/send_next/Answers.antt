use Rattle.std.proofs.Common.{◌≡◌, Some, sym, refl, ap, ◌∙◌, subst, arith}
use Rattle.choosing.specs.Free.{usable_head, run_at}
use Rattle.heads.specs.Heads.{head_of, head_says}
use Rattle.service.specs.Moments.{Moment, moment_of}
use Rattle.service.specs.Rows.{session}
use Rattle.scheduling.proofs.Choosing.{usable_is}
use Rattle.scheduling.proofs.Going.{none_next, one_next, never_none, usable_read, bounded, one_send, past_after, heads_then}
use Rattle.scheduling.specs.Exact.{NextSent}
use Rattle.scheduling.specs.Sending.{head_at}
use Rattle.scheduling.proofs.next.send_next.Goals as goal

pub returns-in_err-choice-clause-sent : goal.returns-in_err-choice-clause-sent
returns-in_err-choice-clause-sent g c =
    let m : Moment = moment_of c.args.tables.now c.args.waiting.now.places.now c.args.waiting.now.len (g.D.Device.means c.args.device.now) in
    let level = g.R.SharingRule.level c.args.rule.now in
    subst (λ r. NextSent g.D.Device.puts level r m m c.args.device.now c.args.device.now) (sym c.from_residual.ensures)
    (none_next level m c.args.heads.now c.requires.found c.args.tables.now.latest refl c.in_err-choice.ensures.is, refl, refl)

pub returns-in_err-head-clause-sent : goal.returns-in_err-head-clause-sent
returns-in_err-head-clause-sent g c =
    let can = c.in_ok-choice.ensures.sendable in
    absurd (never_none (session c.args.tables.now c.in_ok-choice.choice.place) c.args.heads.now c.in_ok-choice.choice.place c.index-heads-choice.result can.inside c.told-heads c.in_err-head.ensures can.head)

pub send_head-requires : goal.send_head-requires
send_head-requires g c =
    let t = c.args.tables.now in
    let p = c.in_ok-choice.choice.place in
    let can = c.in_ok-choice.ensures.sendable in
    let u = usable_is (session t p) (run_at c.args.heads.now p) (head_says c.in_ok-head.head) (usable_read (session t p) c.args.heads.now p c.index-heads-choice.result can.inside c.told-heads (head_says c.in_ok-head.head) c.in_ok-head.ensures) in
    let b = bounded t p c.in_ok-head.head.count c.requires.numbers can.inside u.enough in
    record {
      may = record {
        inside = can.inside;
        of_pool = can.of_pool;
        own_sound = can.own_sound;
        pool_sound = can.pool_sound;
        enough = u.enough;
        lawful = c.requires.numbers.lawful;
        few = b.few;
        given = b.given;
      };
      room = let r = c.requires.room in omega (arith, r);
    }

pub returns : goal.returns
returns g c =
    let t = c.args.tables.now in
    let places = c.args.waiting.now.places.now in
    let len = c.args.waiting.now.len in
    let held = g.D.Device.means c.args.device.now in
    let held' = g.D.Device.means c.send_head.new.device in
    let level = g.R.SharingRule.level c.args.rule.now in
    let m : Moment = moment_of t places len held in
    let choice = c.in_ok-choice.choice in
    let p = choice.place in
    let head = head_says c.in_ok-head.head in
    let can = c.in_ok-choice.ensures.sendable in
    let read = usable_read (session t p) c.args.heads.now p c.index-heads-choice.result can.inside c.told-heads head c.in_ok-head.ensures in
    let u = usable_is (session t p) (run_at c.args.heads.now p) head read in
    let usable : usable_head (session t p) (head_at m p) ≡ Some head = ap (usable_head (session t p)) (sym (c.requires.found p can.inside)) ∙ read in
    let goes = one_next level m c.args.heads.now c.requires.found c.args.tables.now.latest refl choice c.requires.room c.in_ok-choice.ensures.is in
    let places' = c.send_head.new.waiting.places.now in
    let len' = c.send_head.new.waiting.len in
    let line = c.send_head.ensures.line in
    let put = c.send_head.ensures.put in
    let t' = c.send_head.new.tables in
    record {
      sent = record {
        choice = choice;
        run = put.0;
        sends = one_send level t places len held held' choice head places' len' line t' c.send_head.ensures.tables goes usable put.0 put.1 put.2;
        due_is = refl;
        exact = put.3;
      };
      found = heads_then level t places len held held' choice head places' len' line t' c.send_head.ensures.tables c.requires.numbers u.present c.args.heads.now c.head_of.result can.inside c.told-heads c.requires.found (c.head_of.ensures ∙ ap (head_of (session t' p).name) c.used.ensures);
      same = c.send_head.ensures.same;
      past = past_after level t places len held held' choice head places' len' line;
    }
