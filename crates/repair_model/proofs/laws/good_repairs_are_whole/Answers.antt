use Rattle.repair_model.proofs.WholeLemmas.{good_repairs_are_whole}
use Rattle.repair_model.proofs.laws.good_repairs_are_whole.Goals as goal

pub returns : goal.returns
returns c = good_repairs_are_whole
