use Rattle.flow_model.proofs.LimitLemmas.{nets_are_limited}
use Rattle.flow_model.proofs.balance_laws.nets_are_limited.Goals as goal

pub returns : goal.returns
returns c = nets_are_limited
