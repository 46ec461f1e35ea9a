use Rattle.repair_model.proofs.CheckLemmas.{passing_lines_repair}
use Rattle.repair_model.proofs.laws.passing_lines_repair.Goals as goal

pub returns : goal.returns
returns c = passing_lines_repair
