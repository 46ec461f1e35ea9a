use Rattle.std.proofs.Common.{◌≡◌, length}
use Rattle.std.specs.List.{All}
use Rattle.flow_model.specs.Sound.{IsSoundBound}
use Rattle.solver_bench.proofs.shapes.blocks_of.Given as goal

abbrev pub invariant-loop-block : goal.invariant-loop-block
invariant-loop-block l = record {
  each : length l.blocks.items ≡ l.block;
  bounded : All (λ block. IsSoundBound block.bound) l.blocks.items;
}
