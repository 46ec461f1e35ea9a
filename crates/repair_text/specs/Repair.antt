-- Repairs as the code has them.
use Rattle.std.specs.Prelude.{◌≡◌, ◌≢◌, ℕ, ◌<◌, ◌^◌, ⊤, List, [], length, Option, None, Some}
use Rattle.std.specs.Borrow.{Bor}
use Rattle.std.specs.List.{All}
use Rattle.std.specs.Option.{unwrap_or}
use Rattle.block_model.specs.declared.parts.Weight.{Weight}
use Rattle.block_model.specs.Limits.{bound_bits}
use Rattle.flow_model.specs.Cut.{least_in, most_out}
use Rattle.flow_model.specs.Network.{Network, arcs_of, weight_of}
use Rattle.flow_model.specs.Repair.{AreCounts, cost_of}
use Rattle.flow_model.specs.Sides.{AreSides}
use Rattle.flow_network.specs.Flow.{counts_of, holds}
use Rattle.flow_network.specs.declared.flow.Flow.{Flow}
use Rattle.flow_network.specs.declared.flow.Nodes.{Nodes}
use Rattle.flow_network.specs.declared.flow.Prices.{Prices}
use Rattle.flow_network.specs.declared.flow.Solved.{Solved}
use Rattle.flow_network.specs.declared.flow.Solved.TheVariants as solved
use Rattle.repair_model.specs.Repair.{Repair, Solution, flow, cut}
use Rattle.repair_text.specs.declared.repair.Repair as read

-- The weights of edges, if they are told.
abbrev pub weights_of : Option (Bor (List Weight)) → List Weight
weights_of None = []
weights_of (Some weights) = weights.now

-- If weights are told, they are so many.
abbrev pub AreAsMany : ℕ → Option (Bor (List Weight)) → Type 0
AreAsMany count None = ⊤
AreAsMany count (Some weights) = length weights.now ≡ count

abbrev pub AreToldWeights : Network → Option (Bor (List Weight)) → Type 0
AreToldWeights net weights = AreAsMany (length net.edges) weights

-- Weights within their bits.
abbrev pub AreSmall : List Weight → Type 0
AreSmall weights = All (λ weight. weight_of weight < 2 ^ bound_bits) weights

-- The repair of a function with this network by counts, and by a cut.
abbrev pub flow_by : Network → List Weight → List Weight → Flow → Prices → Repair
flow_by net weights edge_weights counts prices = record {
  weights = weights;
  edge_weights = edge_weights;
  solution = flow (counts_of counts) prices.ins prices.outs;
  first = cost_of net (counts_of counts);
  second = 0;
}

abbrev pub cut_by : Network → List Weight → Nodes → Repair
cut_by net weights nodes = record {
  weights = weights;
  edge_weights = [];
  solution = cut nodes.root nodes.ins nodes.outs;
  first = least_in (holds nodes) (arcs_of net);
  second = unwrap_or (most_out (holds nodes) (arcs_of net)) 0;
}

-- The repair by what was solved.
abbrev pub repair_by : Network → List Weight → List Weight → Solved → Repair
repair_by net weights edge_weights (solved.Flow counts prices) = flow_by net weights edge_weights counts prices
repair_by net weights edge_weights (solved.Cut nodes) = cut_by net weights nodes

-- There is one of each for each block and each edge of the network, and all that leaves a cut is bounded.
abbrev pub IsOf : Network → Solved → Type 0
IsOf net (solved.Flow counts prices) = AreCounts net (counts_of counts) × AreSides net prices.ins prices.outs
IsOf net (solved.Cut nodes) = AreSides net nodes.ins nodes.outs × (most_out (holds nodes) (arcs_of net) ≢ None)

-- What was solved, as it stands in a repair.
abbrev pub solution_of : Solved → Solution
solution_of (solved.Flow counts prices) = flow (counts_of counts) prices.ins prices.outs
solution_of (solved.Cut nodes) = cut nodes.root nodes.ins nodes.outs

-- A repair that was read, behind the number of its first line.
abbrev pub repair_of : read.Repair → Repair
repair_of repair = record {
  weights = repair.weights;
  edge_weights = repair.edge_weights;
  solution = solution_of repair.solved;
  first = repair.first;
  second = repair.second;
}

abbrev pub numbered : read.Repair → ℕ × Repair
numbered repair = (repair.line, repair_of repair)
