use Rattle.block_weights.specs.Counts.{counts_of}
use Rattle.block_weights.proofs.TreeLemmas.{LeavesSoFar}
use Rattle.block_weights.proofs.runs.leaves_of.Given as goal

abbrev pub invariant-loop-run : goal.invariant-loop-run
invariant-loop-run l = LeavesSoFar (counts_of l.counts l.segments) l.run l.made.items
