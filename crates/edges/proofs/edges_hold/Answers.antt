use Rattle.edges.proofs.Showing.{edges}
use Rattle.edges.proofs.edges_hold.Goals as goal

pub returns : goal.returns
returns c = edges
