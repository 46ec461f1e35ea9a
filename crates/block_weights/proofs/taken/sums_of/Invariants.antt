use Rattle.block_weights.proofs.TakenLemmas.{SumsSoFar}
use Rattle.block_weights.proofs.taken.sums_of.Given as goal

abbrev pub invariant-loop-branch : goal.invariant-loop-branch
invariant-loop-branch l = SumsSoFar l.branches l.branch-index l.sum l.sums.items
