use Rattle.line_model.proofs.Rows.{rows_are_read}
use Rattle.line_model.proofs.laws.rows_are_read.Goals as goal

pub returns : goal.returns
returns c = rows_are_read
