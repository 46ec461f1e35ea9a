-- The counts of a function among the counts on all arcs of its network.
use Rattle.std.specs.Prelude.{◌≡◌, ℕ, List, length, take, drop}
use Rattle.flow_model.specs.Circulation.{IsCirculation}
use Rattle.flow_model.specs.Network.{Network, Counts, arcs_of, loads}
use Rattle.flow_model.specs.Repair.{ConserveWithinBounds}
use Rattle.flow_model.specs.Sound.{IsNet}

-- The counts of the blocks and of the edges: behind that of the calls, in this order.
abbrev pub own_counts : Network → List ℕ → Counts
own_counts net counts = record {
  blocks = take (length net.blocks) (drop 1 counts);
  edges = take (length net.edges) (drop (length net.blocks) (drop 1 counts));
}

-- A circulation within bounds has on the arcs of calls and returns what the counts of blocks and edges leave there. So
-- these counts conserve within bounds.
abbrev pub CirculationsAreLoads : Type 0
CirculationsAreLoads =
    (net : Network) (counts : List ℕ) → IsNet net → IsCirculation (arcs_of net) counts
    → (loads net (own_counts net counts) ≡ counts) × ConserveWithinBounds net (own_counts net counts)
