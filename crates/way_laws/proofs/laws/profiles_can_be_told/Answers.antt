use Rattle.way_laws.proofs.ToldLemmas.{profiles_can_be_told}
use Rattle.way_laws.proofs.laws.profiles_can_be_told.Goals as goal

pub returns : goal.returns
returns c = profiles_can_be_told
