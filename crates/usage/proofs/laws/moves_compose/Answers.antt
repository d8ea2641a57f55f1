use Rattle.usage.proofs.Moves.{moved_through_lem}
use Rattle.usage.proofs.laws.moves_compose.Goals as goal

pub returns : goal.returns
returns c = moved_through_lem
