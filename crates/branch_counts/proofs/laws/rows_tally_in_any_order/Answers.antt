use Rattle.branch_counts.proofs.OrderLemmas.{rows_tally_in_any_order}
use Rattle.branch_counts.proofs.laws.rows_tally_in_any_order.Goals as goal

pub returns : goal.returns
returns c = rows_tally_in_any_order
