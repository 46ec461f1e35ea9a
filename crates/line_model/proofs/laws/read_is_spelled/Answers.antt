use Rattle.line_model.proofs.Spelled.{operation_at-spelled}
use Rattle.line_model.proofs.laws.read_is_spelled.Goals as goal

pub returns : goal.returns
returns c = operation_at-spelled
