use Rattle.command_laws.proofs.OrderLemmas.{merges_in_any_order}
use Rattle.command_laws.proofs.laws.merges_in_any_order.Goals as goal

pub returns : goal.returns
returns c = merges_in_any_order
