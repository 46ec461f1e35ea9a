use Rattle.profile_maker.proofs.NameLemmas.{places_are_given}
use Rattle.profile_maker.proofs.map_laws.places_are_given.Goals as goal

pub returns : goal.returns
returns c = places_are_given
