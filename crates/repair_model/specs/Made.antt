-- The repairs of functions by what samples say of their blocks and edges.
use Rattle.std.specs.Prelude.{◌≡◌, ◌<◌, ℕ, true, List, [], ◌∷◌, ◌++◌, map, Option, None, Some, is_some, pos}
use Rattle.std.specs.List.{AllByRecursion, AllZip}
use Rattle.block_model.specs.declared.parts.Block.{Block}
use Rattle.block_model.specs.declared.parts.Edge.{Edge}
use Rattle.block_model.specs.declared.parts.Weight.{Weight}
use Rattle.block_model.specs.declared.parts.Weight.TheVariants.{Unknown}
use Rattle.block_model.specs.Function.{Function}
use Rattle.flow_model.specs.Cut.{least_in, most_out}
use Rattle.flow_model.specs.Network.{Network, arcs_of, network_of}
use Rattle.flow_model.specs.Repair.{AreLeast, FitCounts, cost_of}
use Rattle.flow_model.specs.Sides.{AreSides, at_side}
use Rattle.repair_model.specs.Bits.{FitsBits}
use Rattle.repair_model.specs.Repair.{Repair, Solution, flow, cut, has_counts}
use Rattle.repair_model.specs.Text.{lines_of_repair, repair_text}
use Rattle.weight_model.specs.Blocks.{IsWeightOf}
use Rattle.weight_model.specs.Edges.{weight_by}

-- What tells the weight of an edge: how often branches led from a block to an address, and how often ranges ran past
-- one.
pub record EdgeTold : Type 0 where
  pub taken : Block → ℕ → ℕ
  pub passed : ℕ → ℕ

-- The weights of a function's edges, by those of its blocks; unknown where edges are not weighed.
abbrev pub weighed_edges : Option EdgeTold → List Block → List Edge → List Weight → List Weight
weighed_edges None blocks edges weights = map (λ edge. Unknown) edges
weighed_edges (Some told) blocks edges weights = map (weight_by told.taken told.passed blocks weights) edges

-- What is told in the place of the weights of a network: least counts and prices that fit them, with their cost; or a
-- cut, with its sums, of which the first is above the second.
abbrev pub Repairs : Network → Solution → ℕ → ℕ → Type 0
Repairs net (flow counts ins outs) first second =
    AreSides net ins outs × AreLeast net counts × FitCounts (at_side (pos 0) ins outs) net counts
    × (first ≡ cost_of net counts) × (second ≡ 0)
Repairs net (cut root ins outs) first second =
    AreSides net ins outs × (first ≡ least_in (at_side root ins outs) (arcs_of net))
    × (most_out (at_side root ins outs) (arcs_of net) ≡ Some second) × (second < first)

-- A text is the repair of a function: it tells the weights that its blocks and edges have, and in their place what
-- repairs its network, in numbers that can be read.
pub record IsRepairOf {K : Type 0} (key : ℕ → Option K) (count : K → ℕ) (edges : Option EdgeTold) (fun : Function)
    (text : List ℕ) : Type 0 where
  pub repair : Repair
  pub weighed : AllZip (IsWeightOf key count) fun.blocks repair.weights
  pub repairs : Repairs
      (network_of fun.blocks fun.edges repair.weights (weighed_edges edges fun.blocks fun.edges repair.weights))
      repair.solution repair.first repair.second
  pub edges_weighed : has_counts repair.solution ≡ true → is_some edges ≡ true
      → repair.edge_weights ≡ weighed_edges edges fun.blocks fun.edges repair.weights
  pub told : AllByRecursion FitsBits (lines_of_repair (is_some edges) fun repair)
  pub spelled : text ≡ repair_text (is_some edges) fun repair

-- The repairs of functions, one behind the other.
abbrev pub AreRepairsOf : {K : Type 0} → (ℕ → Option K) → (K → ℕ) → Option EdgeTold → List Function → List ℕ → Type 0
AreRepairsOf key count edges [] text = text ≡ []
AreRepairsOf key count edges (fun ∷ funs) text =
    (first : List ℕ) × (rest : List ℕ) × (text ≡ first ++ rest) × IsRepairOf key count edges fun first
    × AreRepairsOf key count edges funs rest
