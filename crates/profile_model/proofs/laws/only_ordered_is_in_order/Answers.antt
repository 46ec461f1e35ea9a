use Rattle.profile_model.proofs.OrderedLemmas.{only_ordered_is_in_order}
use Rattle.profile_model.proofs.laws.only_ordered_is_in_order.Goals as goal

pub returns : goal.returns
returns c = record { ways = only_ordered_is_in_order; targets = only_ordered_is_in_order }
