use Rattle.profile_lists.proofs.PairLemmas.{MergedSoFar}
use Rattle.profile_lists.proofs.pairs.merged.Given as goal

abbrev pub invariant-loop-pair : goal.invariant-loop-pair
invariant-loop-pair l = MergedSoFar l.pairs l.pair-index l.merged.items
