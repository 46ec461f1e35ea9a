use Rattle.profile_model.proofs.OrderLemmas.{orders_tell_apart}
use Rattle.profile_model.proofs.laws.orders_tell_apart.Goals as goal

pub returns : goal.returns
returns c = orders_tell_apart
