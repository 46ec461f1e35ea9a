use Rattle.profile_model.proofs.OrderedLemmas.{ordered_is_in_order}
use Rattle.profile_model.proofs.laws.ordered_is_in_order.Goals as goal

pub returns : goal.returns
returns c = record { ways = ordered_is_in_order; targets = ordered_is_in_order }
