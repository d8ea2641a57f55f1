use Rattle.history.proofs.Running.{every_history, course_sound}
use Rattle.passing.proofs.Laws.{passing_of_course}
use Rattle.passing.proofs.passing_holds.Goals as goal
use Rattle.passing.specs.Law.{PassingLaw}

pub returns : goal.returns
returns c = every_history PassingLaw (λ level start starts. passing_of_course level start starts (course_sound level start starts))
