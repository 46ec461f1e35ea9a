use Rattle.repair_model.proofs.LineLemmas.{written_lines_are_read}
use Rattle.repair_model.proofs.laws.written_lines_are_read.Goals as goal

pub returns : goal.returns
returns c = written_lines_are_read
