use Rattle.entry_model.proofs.OrderLemmas.{entries-in_order}
use Rattle.entry_model.proofs.laws.entries_stand_in_order.Goals as goal

pub returns : goal.returns
returns c = entries-in_order
