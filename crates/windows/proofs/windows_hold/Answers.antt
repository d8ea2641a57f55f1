use Rattle.history.proofs.Running.{every_history}
use Rattle.windows.proofs.Stepping.{windows_of_course}
use Rattle.windows.proofs.windows_hold.Goals as goal
use Rattle.windows.specs.Law.{WindowsLaw}

pub returns : goal.returns
returns c = every_history WindowsLaw windows_of_course
