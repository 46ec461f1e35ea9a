use Rattle.profile_lists.proofs.PlaceLemmas.{counts_are_those_of_places}
use Rattle.profile_lists.proofs.laws.counts_are_those_of_places.Goals as goal

pub returns : goal.returns
returns c = counts_are_those_of_places
