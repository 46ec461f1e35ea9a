use Rattle.block_weights.specs.Counts.{count_in}
use Rattle.key_types.specs.Segments.{key_told}
use Rattle.repair_maker.proofs.CostLemmas.{AddedSoFar}
use Rattle.repair_maker.proofs.costs.costs_by.Given as goal

abbrev pub invariant-loop-fun : goal.invariant-loop-fun
invariant-loop-fun l = AddedSoFar (key_told l.counted.segments) (count_in l.counted.counts) l.funs l.fun-index l.sum.cost l.sum.cuts
