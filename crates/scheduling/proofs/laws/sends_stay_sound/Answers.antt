use Rattle.scheduling.proofs.Sounding.{sends_stay_sound_lem}
use Rattle.scheduling.proofs.laws.sends_stay_sound.Goals as goal

pub returns : goal.returns
returns c = sends_stay_sound_lem
