use Rattle.std.proofs.Common.{◌≤◌, length, take}
use Rattle.std.specs.List.{AllZip}
use Rattle.key_types.specs.Segments.{key_told}
use Rattle.weight_model.specs.Blocks.{IsWeightOf}
use Rattle.block_weights.specs.Counts.{count_in}
use Rattle.block_weights.proofs.blocks.weights.Given as goal

abbrev pub invariant-loop-block : goal.invariant-loop-block
invariant-loop-block l =
    AllZip (IsWeightOf (key_told l.counted.segments) (count_in l.counted.counts)) (take l.block-index l.block-items) l.made.items
    × (l.near ≤ length l.counted.segments)
