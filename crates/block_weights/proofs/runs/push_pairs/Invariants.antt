use Rattle.block_weights.proofs.TreeLemmas.{PairsSoFar}
use Rattle.block_weights.proofs.runs.push_pairs.Given as goal

abbrev pub invariant-loop-pair : goal.invariant-loop-pair
invariant-loop-pair l = PairsSoFar l.initial.tree.items l.pair l.tree.items
