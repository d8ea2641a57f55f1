use Rattle.bucket.proofs.Windows.{window_law}
use Rattle.bucket.proofs.laws.windows_hold.Goals as goal

pub returns : goal.returns
returns c = window_law
