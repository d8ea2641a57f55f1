use Rattle.std.proofs.Common.{subst, rules}
use Rattle.line.specs.Line.{Closed, records_of, without}
use Rattle.scheduling.proofs.Fronts.{front_of_front}
use Rattle.scheduling.proofs.Putting.{put_done}
use Rattle.scheduling.specs.Sending.{owner_of, used_of}
use Rattle.service.specs.Rows.{session}
use Rattle.scheduling.proofs.next.send_head.Goals as goal

pub returns : goal.returns
returns g c =
    let places = c.args.waiting.now.places.now in
    let name = (session c.args.tables.now c.args.choice.place).name in
    let put = put_done c.put.result (g.D.Device.means c.args.device.now) c.run_of-run.result (g.D.Device.means c.put.new.self) _ _ c.requires.room c.put.ensures.meant c.put.ensures.exact in
    record {
      tables = search rules;
      same = search rules;
      line = subst (λ n. Closed (without owner_of name n (used_of (records_of places c.args.waiting.now.len))) places c.take_first.new.self.places.now c.take_first.new.self.len) c.from.ensures
          (subst (λ used. Closed (without owner_of name c.from.result used) places c.take_first.new.self.places.now c.take_first.new.self.len) (front_of_front places 4096 c.args.waiting.now.len) c.take_first.ensures.held);
      put = (c.run_of-run.result, c.run_of-run.ensures, put.0, put.1);
    }
