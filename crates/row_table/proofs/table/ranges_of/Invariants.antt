use Rattle.row_table.proofs.IndexLemmas.{RangesSoFar}
use Rattle.row_table.proofs.table.ranges_of.Given as goal

abbrev pub invariant-loop-owner : goal.invariant-loop-owner
invariant-loop-owner l = RangesSoFar l.sequences l.owner l.ranges.items
