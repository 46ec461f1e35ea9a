-- What conservation of a circulation means at blocks, and what the tests of blocks and edges show.
use Rattle.std.specs.Prelude.{◌≡◌, ◌↔◌, ◌==◌, ℕ, List, length, slice_get, Some, ℤ}
use Rattle.block_model.specs.declared.parts.Block.{Block}
use Rattle.block_model.specs.declared.parts.Edge.{Edge}
use Rattle.block_model.specs.declared.parts.Weight.{Weight}
use Rattle.flow_model.specs.declared.arc.Arc.{Arc}
use Rattle.flow_model.specs.Network.{Network, Counts, block_arc, network_of}
use Rattle.flow_model.specs.Repair.{AreLeast, ConserveWithinBounds, FitCounts}
use Rattle.flow_model.specs.Balance.{came_to, went_from, IsBalanced}
use Rattle.flow_model.specs.Passing.{AllTestsPass, came_by_edges, went_by_edges, is_entry, is_exit}
use Rattle.flow_model.specs.Sound.{AreWeights, IsNet, IsSound, IsLimited}

-- With the calls and the returns that they leave, counts of a function are a circulation within bounds exactly where
-- they balance at each of its blocks.
abbrev pub BalanceIsConservation : Type 0
BalanceIsConservation =
    (blocks : List Block) (edges : List Edge) (weights edge_weights : List Weight) (counts : Counts)
    → IsSound blocks edges → AreWeights (length blocks) weights → AreWeights (length edges) edge_weights
    → ConserveWithinBounds (network_of blocks edges weights edge_weights) counts
    ↔ IsBalanced blocks edges weights counts

-- All blocks and edges pass their tests exactly where counts conserve within bounds and the prices fit them.
abbrev pub TestsAreExact : Type 0
TestsAreExact =
    (net : Network) (counts : Counts) (price : ℕ → ℤ)
    → IsNet net → AllTestsPass net counts price ↔ (ConserveWithinBounds net counts × FitCounts price net counts)

-- Where all pass, no counts of any size that conserve within bounds cost less.
abbrev pub TestsShowLeast : Type 0
TestsShowLeast =
    (net : Network) (counts : Counts) (price : ℕ → ℤ) → IsNet net → AllTestsPass net counts price → AreLeast net counts

-- What the tests ask of a block's arc, by the number of the block: how often edges lead to it and from it, and whether
-- it is block 0 and an exit.
pub record IsByNumber (net : Network) (counts : Counts) (arc : Arc) (edges : List Edge) (number : ℕ) (block : Block)
    : Type 0 where
  pub came : came_by_edges net counts arc ≡ came_to edges counts.edges number
  pub went : went_by_edges net counts arc ≡ went_from edges counts.edges number
  pub entry : is_entry net arc ≡ (number == 0)
  pub exit : is_exit net arc ≡ block.exit

-- So it is at each block of a function.
abbrev pub TestsAreByNumber : Type 0
TestsAreByNumber =
    (blocks : List Block) (edges : List Edge) (weights edge_weights : List Weight) (counts : Counts)
    → AreWeights (length edges) edge_weights → (number : ℕ) (block : Block) (weight : Weight)
    → slice_get blocks number ≡ Some block
    → let net = network_of blocks edges weights edge_weights in
    IsByNumber net counts (block_arc number block weight) edges number block

-- Each network of a function is limited.
abbrev pub NetsAreLimited : Type 0
NetsAreLimited = (net : Network) → IsNet net → IsLimited net
