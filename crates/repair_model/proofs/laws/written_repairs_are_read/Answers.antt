use Rattle.repair_model.proofs.BackLemmas.{written_repairs_are_read}
use Rattle.repair_model.proofs.laws.written_repairs_are_read.Goals as goal

pub returns : goal.returns
returns c = written_repairs_are_read
