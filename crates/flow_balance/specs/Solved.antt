-- What a network comes to.
use Rattle.flow_model.specs.Cut.{IsCut}
use Rattle.flow_model.specs.Network.{Network, Counts, arcs_of}
use Rattle.flow_model.specs.Repair.{AreLeast, ConserveWithinBounds, FitCounts}
use Rattle.flow_model.specs.Sides.{AreSides}
use Rattle.flow_network.specs.Flow.{counts_of, holds, price_of}
use Rattle.flow_network.specs.declared.flow.Flow.{Flow}
use Rattle.flow_network.specs.declared.flow.Nodes.{Nodes}
use Rattle.flow_network.specs.declared.flow.Prices.{Prices}
use Rattle.flow_network.specs.declared.flow.Solved.{Solved}
use Rattle.flow_network.specs.declared.flow.Solved.TheVariants as variant

-- Counts conserve within bounds and cost least among all that do, and the prices fit them.
pub record AreLeastByPrices (net : Network) (flow : Flow) (prices : Prices) : Type 0 where
  pub priced : AreSides net prices.ins prices.outs
  pub least : AreLeast net (counts_of flow)
  pub fit : FitCounts (price_of prices) net (counts_of flow)

-- A set of sides is a cut, so no counts conserve within bounds.
pub record IsCutOf (net : Network) (nodes : Nodes) : Type 0 where
  pub sides : AreSides net nodes.ins nodes.outs
  pub cut : IsCut (holds nodes) (arcs_of net)
  pub none : (counts : Counts) → ConserveWithinBounds net counts → ⊥

-- Least counts with prices that fit them, or a cut.
abbrev pub Solves : Network → Solved → Type 0
Solves net (variant.Flow flow prices) = AreLeastByPrices net flow prices
Solves net (variant.Cut nodes) = IsCutOf net nodes
