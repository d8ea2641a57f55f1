use Rattle.choosing.proofs.Lawful.{choice_laws}
use Rattle.choosing.proofs.laws.choices_hold.Goals as goal

pub returns : goal.returns
returns c = choice_laws
