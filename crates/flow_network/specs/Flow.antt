-- What is said of a network: counts, prices of its sides, and sets of them.
use Rattle.std.specs.Prelude.{ℕ, Bool, ℤ, pos}
use Rattle.flow_model.specs.Network.{Counts}
use Rattle.flow_model.specs.Sides.{at_side}
use Rattle.flow_network.specs.declared.flow.Flow.{Flow}
use Rattle.flow_network.specs.declared.flow.Nodes.{Nodes}
use Rattle.flow_network.specs.declared.flow.Prices.{Prices}

-- The counts of a flow.
abbrev pub counts_of : Flow → Counts
counts_of flow = record { blocks = flow.blocks; edges = flow.edges }

-- The price of a side; the root's is 0.
abbrev pub price_of : Prices → ℕ → ℤ
price_of prices side = at_side (pos 0) prices.ins prices.outs side

-- Whether a side is in the set.
abbrev pub holds : Nodes → ℕ → Bool
holds nodes side = at_side nodes.root nodes.ins nodes.outs side
