-- What is made of a function before anything is told of it.
use Rattle.std.specs.Prelude.{◌≡◌, ℕ, List, length, Option}
use Rattle.std.specs.List.{AllZip}
use Rattle.block_model.specs.declared.parts.Weight.{Weight}
use Rattle.block_model.specs.Function.{Function}
use Rattle.flow_model.specs.Network.{Network, network_of}
use Rattle.flow_model.specs.Sound.{AreWeights}
use Rattle.flow_network.specs.declared.flow.Solved.{Solved}
use Rattle.flow_solver.specs.Solved.{Solves}
use Rattle.repair_model.specs.Made.{EdgeTold, weighed_edges}
use Rattle.weight_model.specs.Blocks.{IsWeightOf}

-- The weights of a function's blocks and edges, its network by these, and what repairs it.
pub record IsRepaired {K : Type 0} (key : ℕ → Option K) (count : K → ℕ) (edges : Option EdgeTold) (fun : Function)
    (weights edge_weights : List Weight) (net : Network) (solved : Solved) : Type 0 where
  pub weighed : AllZip (IsWeightOf key count) fun.blocks weights
  pub small : AreWeights (length fun.blocks) weights
  pub edges_weighed : edge_weights ≡ weighed_edges edges fun.blocks fun.edges weights
  pub edges_small : AreWeights (length fun.edges) edge_weights
  pub net_is : net ≡ network_of fun.blocks fun.edges weights edge_weights
  pub solves : Solves net solved
