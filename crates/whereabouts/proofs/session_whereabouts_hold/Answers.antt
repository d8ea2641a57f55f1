use Rattle.whereabouts.proofs.Keeps.{session_always_found}
use Rattle.whereabouts.proofs.session_whereabouts_hold.Goals as goal

pub returns : goal.returns
returns c = session_always_found
