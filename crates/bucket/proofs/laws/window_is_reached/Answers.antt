use Rattle.bucket.proofs.Windows.{window_reached}
use Rattle.bucket.proofs.laws.window_is_reached.Goals as goal

pub returns : goal.returns
returns c = window_reached
