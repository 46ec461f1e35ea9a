use Rattle.repair_model.proofs.ApartLemmas.{repairs_are_apart}
use Rattle.repair_model.proofs.laws.repairs_are_apart.Goals as goal

pub returns : goal.returns
returns c = repairs_are_apart
