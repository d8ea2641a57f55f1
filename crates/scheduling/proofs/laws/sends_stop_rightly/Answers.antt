use Rattle.scheduling.proofs.Stopping.{stops_rightly}
use Rattle.scheduling.proofs.laws.sends_stop_rightly.Goals as goal

pub returns : goal.returns
returns c = stops_rightly
