use Rattle.branch_counts.proofs.OrderLemmas.{sorted_rows_are_distinct_pairs}
use Rattle.branch_counts.proofs.laws.sorted_rows_are_distinct_pairs.Goals as goal

pub returns : goal.returns
returns c = sorted_rows_are_distinct_pairs
