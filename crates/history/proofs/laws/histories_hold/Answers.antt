use Rattle.history.proofs.Running.{history_laws}
use Rattle.history.proofs.laws.histories_hold.Goals as goal

pub returns : goal.returns
returns c = history_laws
