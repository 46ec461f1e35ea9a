-- A network as it is kept.
use Rattle.std.specs.Prelude.{◌≡◌, ℕ, ◌+◌, ◌*◌, List, length, map, take, drop, slice_index_or}
use Rattle.flow_model.specs.declared.arc.Arc.{Arc}
use Rattle.flow_model.specs.Circulation.{root}
use Rattle.flow_model.specs.Network.{Network, arcs_of, free_arc}
use Rattle.flow_model.specs.Sound.{IsNet}
use Rattle.flow_network.specs.Table.{AreRows}
use Rattle.flow_network.specs.declared.rows.KeyRows.{KeyRows}

-- The network that has these arcs, with arcs for so many blocks and edges.
abbrev pub network_by : List Arc → ℕ → ℕ → Network
network_by arcs blocks edges = record {
  calls = slice_index_or arcs 0 (free_arc root root 0);
  blocks = take blocks (drop 1 arcs);
  edges = take edges (drop blocks (drop 1 arcs));
  returns = drop edges (drop blocks (drop 1 arcs));
}

-- The nodes that arcs leave, and those that they enter.
abbrev pub tails_of : List Arc → List ℕ
tails_of arcs = map (λ arc. arc.tail) arcs

abbrev pub heads_of : List Arc → List ℕ
heads_of arcs = map (λ arc. arc.head) arcs

-- These are the arcs of the network, and their places are kept for each side.
pub record KeepsNet (arcs : List Arc) (blocks edges : ℕ) (leaving entering : KeyRows) : Type 0 where
  pub net : IsNet (network_by arcs blocks edges)
  pub all : arcs ≡ arcs_of (network_by arcs blocks edges)
  pub block_count : length (network_by arcs blocks edges).blocks ≡ blocks
  pub edge_count : length (network_by arcs blocks edges).edges ≡ edges
  pub leave : AreRows (tails_of arcs) (2 * blocks + 1) leaving
  pub enter : AreRows (heads_of arcs) (2 * blocks + 1) entering
