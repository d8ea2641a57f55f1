use Rattle.choosing.proofs.Quietly.{quiet_until}
use Rattle.choosing.proofs.laws.quiet_until_wake_up.Goals as goal

pub returns : goal.returns
returns c = quiet_until
