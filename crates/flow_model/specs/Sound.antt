-- The functions that have a network, with the weights of their blocks and edges.
use Rattle.std.specs.Prelude.{◌≡◌, ℕ, ◌*◌, ◌^◌, ◌<◌, ◌≤◌, ⊤, List, length, Option, None, Some}
use Rattle.std.specs.List.{All}
use Rattle.block_model.specs.declared.parts.Block.{Block}
use Rattle.block_model.specs.declared.parts.Bound.{Bound}
use Rattle.block_model.specs.declared.parts.Edge.{Edge}
use Rattle.block_model.specs.declared.parts.Weight.{Weight}
use Rattle.block_model.specs.Limits.{max_blocks, max_edges, bound_bits}
use Rattle.flow_model.specs.declared.arc.Arc.{Arc}
use Rattle.flow_model.specs.Network.{Network, arcs_of, network_of, weight_of}

-- An upper bound is within its bits, and no lower bound is above it.
abbrev pub IsSoundUpper : ℕ → Option ℕ → Type 0
IsSoundUpper least None = ⊤
IsSoundUpper least (Some most) = (least ≤ most) × (most < 2 ^ bound_bits)

-- A bound as a block text spells it.
pub record IsSoundBound (bound : Bound) : Type 0 where
  pub small : bound.lower < 2 ^ bound_bits
  pub ordered : IsSoundUpper bound.lower bound.upper

-- An edge joins two of so many blocks.
pub record JoinsBlocks (count : ℕ) (edge : Edge) : Type 0 where
  pub leaves : edge.from < count
  pub enters : edge.to < count

-- A function keeps those rules of a block text on which its network rests.
pub record IsSound (blocks : List Block) (edges : List Edge) : Type 0 where
  pub some : 0 < length blocks
  pub few_blocks : length blocks ≤ max_blocks
  pub few_edges : length edges ≤ max_edges
  pub joined : All (JoinsBlocks (length blocks)) edges
  pub bounded_blocks : All (λ block. IsSoundBound block.bound) blocks
  pub bounded_edges : All (λ edge. IsSoundBound edge.bound) edges

-- There are so many weights, each within the bits of a bound.
pub record AreWeights (count : ℕ) (weights : List Weight) : Type 0 where
  pub each : length weights ≡ count
  pub small : All (λ weight. weight_of weight < 2 ^ bound_bits) weights

-- A network is that of some function that is sound, with its weights.
pub record IsNet (net : Network) : Type 0 where
  pub blocks : List Block
  pub edges : List Edge
  pub weights : List Weight
  pub edge_weights : List Weight
  pub sound : IsSound blocks edges
  pub block_weighed : AreWeights (length blocks) weights
  pub edge_weighed : AreWeights (length edges) edge_weights
  pub same : net ≡ network_of blocks edges weights edge_weights

-- The numbers of an arc are small, its bounds in order, and its ends sides of so many blocks or the root.
pub record IsLimitedArc (count : ℕ) (arc : Arc) : Type 0 where
  pub starts : arc.tail ≤ 2 * count
  pub goes : arc.head ≤ 2 * count
  pub small : arc.lower < 2 ^ bound_bits
  pub ordered : IsSoundUpper arc.lower arc.upper
  pub light : arc.weight < 2 ^ bound_bits
  pub cheap_up : arc.up ≤ 40
  pub cheap_down : arc.down ≤ 40

-- A network has few arcs, and each is limited.
pub record IsLimited (net : Network) : Type 0 where
  pub few : length (arcs_of net) < 2 ^ 19
  pub arcs : All (IsLimitedArc (length net.blocks)) (arcs_of net)
