use Rattle.windows.proofs.Example.{bound_reached}
use Rattle.windows.proofs.bound_is_reached.Goals as goal

pub returns : goal.returns
returns c = bound_reached
