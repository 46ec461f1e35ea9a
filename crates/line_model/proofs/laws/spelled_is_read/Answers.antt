use Rattle.line_model.proofs.Spelled.{operation_at-again}
use Rattle.line_model.proofs.laws.spelled_is_read.Goals as goal

pub returns : goal.returns
returns c = operation_at-again
