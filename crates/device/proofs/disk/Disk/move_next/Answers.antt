use Rattle.device.proofs.Exact.{worked_from_finished}
use Rattle.device.proofs.disk.Disk.move_next.Goals as goal

pub returns-clause-meant : goal.returns-clause-meant
returns-clause-meant g c = worked_from_finished _ _ _ _ c.in_ok-run.ensures
