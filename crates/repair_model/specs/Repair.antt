-- What a text tells of a function: counts that repair its weights, or a cut.
use Rattle.std.specs.Prelude.{ℕ, Bool, true, false, List, [], ℤ}
use Rattle.block_model.specs.declared.parts.Edge.{Edge}
use Rattle.block_model.specs.declared.parts.Weight.{Weight}
use Rattle.block_model.specs.Function.{Function}
use Rattle.flow_model.specs.Network.{Counts}

-- What stands in the place of the weights: counts with prices, or a set of sides.
pub data Solution : Type 0 where
  -- How often each block ran and each edge was taken; the prices where each block is entered, and where it is left.
  flow : Counts → List ℤ → List ℤ → Solution
  -- Whether the root is in the set; for each block whether the side is where it is entered, and where it is left.
  cut : Bool → List Bool → List Bool → Solution

-- A repair of a function: a weight for each block and, beside counts, for each edge, and what stands in their place.
-- Last the two numbers of its end: what the counts cost, and 0; or the two sums of the cut.
pub record Repair : Type 0 where
  pub weights : List Weight
  pub edge_weights : List Weight
  pub solution : Solution
  pub first : ℕ
  pub second : ℕ

-- Whether there are counts, and not a cut.
abbrev pub has_counts : Solution → Bool
has_counts (flow counts ins outs) = true
has_counts (cut root ins outs) = false

-- The edges that are told of: all of the function's, but none beside a cut.
abbrev pub told_edges : Function → Solution → List Edge
told_edges fun (flow counts ins outs) = fun.edges
told_edges fun (cut root ins outs) = []
