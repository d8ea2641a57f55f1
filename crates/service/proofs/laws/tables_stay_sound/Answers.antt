use Rattle.service.proofs.Lasting.{stays_sound}
use Rattle.service.proofs.laws.tables_stay_sound.Goals as goal

pub returns : goal.returns
returns c = stays_sound
