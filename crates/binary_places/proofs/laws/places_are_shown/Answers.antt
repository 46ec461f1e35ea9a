use Rattle.binary_places.proofs.ShownLemmas.{places_shown}
use Rattle.binary_places.proofs.laws.places_are_shown.Goals as goal

pub returns : goal.returns
returns c = places_shown
