-- The network of a function: an arc for each block and edge, for the calls of the function, and for its returns.
use Rattle.std.specs.Prelude.{ℕ, ◌+◌, ◌-◌, ◌*◌, ◌==◌, nat_lt, Bool, false, ◌||◌, List, [], ◌∷◌, ◌++◌, map, None, if◌then◌else◌}
use Rattle.block_model.specs.declared.parts.Block.{Block}
use Rattle.block_model.specs.declared.parts.Edge.{Edge}
use Rattle.block_model.specs.declared.parts.Weight.{Weight}
use Rattle.block_model.specs.declared.parts.Weight.TheVariants.{Unknown, Known}
use Rattle.flow_model.specs.declared.arc.Arc.{Arc}
use Rattle.flow_model.specs.Circulation.{root, inflow, outflow}

-- The side at which a block is entered: the sides follow the root, two for each block.
abbrev pub in_side : ℕ → ℕ
in_side block = 1 + 2 * block

-- The side at which a block is left.
abbrev pub out_side : ℕ → ℕ
out_side block = 2 + 2 * block

-- The count that costs nothing.
abbrev pub weight_of : Weight → ℕ
weight_of Unknown = 0
weight_of (Known weight) = weight

-- What a unit above a block's weight costs. Block 0 is dearer, since its count is the function's.
abbrev pub raise_of_block : ℕ → Weight → ℕ
raise_of_block block Unknown = 1
raise_of_block block (Known weight) = if block == 0 then 40 else (if weight == 0 then 11 else 10)

-- What a unit below a block's weight costs.
abbrev pub lower_of_block : ℕ → Weight → ℕ
lower_of_block block Unknown = 0
lower_of_block block (Known weight) = if block == 0 then 10 else (if weight == 0 then 0 else 20)

-- What a unit above an edge's weight costs.
abbrev pub raise_of_edge : Weight → ℕ
raise_of_edge Unknown = 0
raise_of_edge (Known weight) = if weight == 0 then 3 else 2

-- What a unit below an edge's weight costs.
abbrev pub lower_of_edge : Weight → ℕ
lower_of_edge Unknown = 0
lower_of_edge (Known weight) = if weight == 0 then 0 else 4

-- A block's arc joins its two sides.
abbrev pub block_arc : ℕ → Block → Weight → Arc
block_arc number block weight = record {
  tail = in_side number;
  head = out_side number;
  lower = block.bound.lower;
  upper = block.bound.upper;
  weight = weight_of weight;
  up = raise_of_block number weight;
  down = lower_of_block number weight;
}

-- An edge's arc leads from where one block is left to where the other is entered.
abbrev pub edge_arc : Edge → Weight → Arc
edge_arc edge weight = record {
  tail = out_side edge.from;
  head = in_side edge.to;
  lower = edge.bound.lower;
  upper = edge.bound.upper;
  weight = weight_of weight;
  up = raise_of_edge weight;
  down = lower_of_edge weight;
}

-- An arc that costs nothing and lets any count from this one on through.
abbrev pub free_arc : ℕ → ℕ → ℕ → Arc
free_arc tail head lower =
    record { tail = tail; head = head; lower = lower; upper = None; weight = 0; up = 0; down = 0 }

-- Whether some block was sampled.
abbrev pub some_sampled : List Weight → Bool
some_sampled [] = false
some_sampled (weight ∷ weights) = nat_lt 0 (weight_of weight) || some_sampled weights

-- The blocks' arcs, the first of them with this number.
abbrev pub block_arcs : ℕ → List Block → List Weight → List Arc
block_arcs number (block ∷ blocks) (weight ∷ weights) =
    block_arc number block weight ∷ block_arcs (number + 1) blocks weights
block_arcs number _ _ = []

-- The edges' arcs.
abbrev pub edge_arcs : List Edge → List Weight → List Arc
edge_arcs (edge ∷ edges) (weight ∷ weights) = edge_arc edge weight ∷ edge_arcs edges weights
edge_arcs _ _ = []

-- The arcs of the returns: one from where each exit is left to the root.
abbrev pub return_arcs : ℕ → List Block → List Arc
return_arcs number [] = []
return_arcs number (block ∷ blocks) =
    if block.exit then free_arc (out_side number) root 0 ∷ return_arcs (number + 1) blocks
    else return_arcs (number + 1) blocks

-- A network, by what its arcs stand for.
pub record Network : Type 0 where
  pub calls : Arc
  pub blocks : List Arc
  pub edges : List Arc
  pub returns : List Arc

-- Its arcs, in order.
abbrev pub arcs_of : Network → List Arc
arcs_of net = net.calls ∷ (net.blocks ++ (net.edges ++ net.returns))

-- The network of a function with these blocks and edges, and a weight for each of them. Who was sampled was called.
abbrev pub network_of : List Block → List Edge → List Weight → List Weight → Network
network_of blocks edges weights edge_weights = record {
  calls = free_arc root (in_side 0) (if some_sampled weights then 1 else 0);
  blocks = block_arcs 0 blocks weights;
  edges = edge_arcs edges edge_weights;
  returns = return_arcs 0 blocks;
}

-- Counts of a function: how often each block ran, and each edge was taken.
pub record Counts : Type 0 where
  pub blocks : List ℕ
  pub edges : List ℕ

-- How often the function was called: what passes its first block and came by no edge.
abbrev pub calls : Network → Counts → ℕ
calls net counts = outflow net.blocks counts.blocks net.calls.head - inflow net.edges counts.edges net.calls.head

-- How often the function returned from an exit: what passed the exit and left by no edge.
abbrev pub returns : Network → Counts → Arc → ℕ
returns net counts arc = inflow net.blocks counts.blocks arc.tail - outflow net.edges counts.edges arc.tail

-- What these counts put on each arc.
abbrev pub loads : Network → Counts → List ℕ
loads net counts = calls net counts ∷ (counts.blocks ++ (counts.edges ++ map (returns net counts) net.returns))
