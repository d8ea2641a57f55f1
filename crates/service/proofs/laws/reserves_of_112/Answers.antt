use Rattle.service.proofs.Reserves.{reserves_of_112_lem}
use Rattle.service.proofs.laws.reserves_of_112.Goals as goal

pub returns : goal.returns
returns c = reserves_of_112_lem
