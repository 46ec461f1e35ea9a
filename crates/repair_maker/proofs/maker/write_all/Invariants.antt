use Rattle.block_weights.specs.Counts.{count_in}
use Rattle.key_types.specs.Segments.{key_told}
use Rattle.repair_maker.specs.Told.{edges_told}
use Rattle.repair_maker.proofs.AugmentationLemmas.{CountedSoFar}
use Rattle.repair_maker.proofs.RepairLemmas.{WrittenSoFar}
use Rattle.repair_maker.proofs.maker.write_all.Given as goal

abbrev pub invariant-loop-fun : goal.invariant-loop-fun
invariant-loop-fun l =
    WrittenSoFar (key_told l.counted.segments) (count_in l.counted.counts) (edges_told l.edges) l.funs l.fun-index l.initial.out.items l.out.items
    × CountedSoFar (key_told l.counted.segments) (count_in l.counted.counts) (edges_told l.edges) l.funs l.fun-index l.solver
