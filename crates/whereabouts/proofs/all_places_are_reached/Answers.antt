use Rattle.whereabouts.proofs.Example.{through_all_places}
use Rattle.whereabouts.proofs.all_places_are_reached.Goals as goal

pub returns : goal.returns
returns c = through_all_places
