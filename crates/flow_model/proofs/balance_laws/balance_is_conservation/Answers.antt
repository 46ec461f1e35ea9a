use Rattle.flow_model.proofs.NumberLemmas.{balance_is_conservation}
use Rattle.flow_model.proofs.balance_laws.balance_is_conservation.Goals as goal

pub returns : goal.returns
returns c = balance_is_conservation
