use Rattle.line_model.proofs.Rows.{read_rows_are_rows}
use Rattle.line_model.proofs.laws.read_rows_are_rows.Goals as goal

pub returns : goal.returns
returns c = read_rows_are_rows
