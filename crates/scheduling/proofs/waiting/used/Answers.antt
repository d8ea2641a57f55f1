use Rattle.scheduling.proofs.Fronts.{up_to}
use Rattle.scheduling.proofs.waiting.used.Goals as goal

pub returns : goal.returns
returns c = up_to _ c.records-records.result.now 4096 c.min-end.result c.records-records.ensures c.min-end.ensures
