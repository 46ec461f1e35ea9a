use Rattle.value_model.proofs.Spelled.{value_at-again}
use Rattle.value_model.proofs.laws.spelled_is_read.Goals as goal

pub returns : goal.returns
returns c = value_at-again
