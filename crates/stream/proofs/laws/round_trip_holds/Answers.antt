use Rattle.stream.proofs.RoundTrips.{round_trip}
use Rattle.stream.proofs.laws.round_trip_holds.Goals as goal

pub returns : goal.returns
returns c = round_trip
