-- Edges of a made-up function.
use Rattle.std.specs.Prelude.{ℕ, List}
use Rattle.std.specs.List.{All}
use Rattle.block_model.specs.declared.parts.Edge.{Edge}
use Rattle.flow_model.specs.Sound.{JoinsBlocks, IsSoundBound}

-- Edges without bounds between so many blocks.
pub record AreEdges (count : ℕ) (edges : List Edge) : Type 0 where
  pub joined : All (JoinsBlocks count) edges
  pub bounded : All (λ edge. IsSoundBound edge.bound) edges
