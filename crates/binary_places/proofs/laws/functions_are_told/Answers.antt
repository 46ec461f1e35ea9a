use Rattle.binary_places.proofs.ShownLemmas.{functions_told}
use Rattle.binary_places.proofs.laws.functions_are_told.Goals as goal

pub returns : goal.returns
returns c = functions_told
