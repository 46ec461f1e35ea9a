use Rattle.std.proofs.Common.{length, ◌-◌}
use Rattle.range_counts.proofs.LargestLemmas.{LargestSoFar}
use Rattle.range_counts.proofs.steps.largest_from.Given as goal

abbrev pub invariant-loop-end : goal.invariant-loop-end
invariant-loop-end l = LargestSoFar l.steps l.next l.hi l.end l.largest

abbrev pub decreases-loop-end : goal.decreases-loop-end
decreases-loop-end l = length l.steps - l.end
