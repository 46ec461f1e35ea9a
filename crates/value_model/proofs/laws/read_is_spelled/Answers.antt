use Rattle.value_model.proofs.Read.{value_at-spelled}
use Rattle.value_model.proofs.laws.read_is_spelled.Goals as goal

pub returns : goal.returns
returns c = value_at-spelled
