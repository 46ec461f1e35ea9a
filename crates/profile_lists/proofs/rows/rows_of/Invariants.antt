use Rattle.profile_lists.proofs.LoopLemmas.{RowsSoFar}
use Rattle.profile_lists.proofs.rows.rows_of.Given as goal

abbrev pub invariant-loop-left : goal.invariant-loop-left
invariant-loop-left l = RowsSoFar l.items l.left l.sums.items l.rows.items

abbrev pub decreases-loop-left : goal.decreases-loop-left
decreases-loop-left l = l.left
