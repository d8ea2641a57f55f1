use Rattle.whereabouts.proofs.Keeps.{always_found}
use Rattle.whereabouts.proofs.whereabouts_hold.Goals as goal

pub returns : goal.returns
returns c = always_found
