use Rattle.stream.proofs.RoundTrips.{read_back}
use Rattle.stream.proofs.write.write_all.Goals as goal

pub returns-clause-back : goal.returns-clause-back
returns-clause-back c = read_back c.args.events.now _ c.loop-event-test.false c.loop-event.invariant.fit
