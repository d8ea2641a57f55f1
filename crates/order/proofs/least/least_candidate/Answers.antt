use Rattle.order.proofs.Candidates.{least_candidate_from}
use Rattle.order.proofs.Picking.{least_is}
use Rattle.order.proofs.least.least_candidate.Goals as goal

pub returns-clause-chosen : goal.returns-clause-chosen
returns-clause-chosen g c = least_candidate_from _ _ _ _ _ c.in_ok-place.ensures c.index-keys-place.is c.if_candidate.ensures

pub returns-clause-is : goal.returns-clause-is
returns-clause-is g c = least_is _ g.met.K.Key.ranks _ _ (returns-clause-chosen g c)
