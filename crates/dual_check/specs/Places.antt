-- Counts by the places of their arcs.
use Rattle.std.specs.Prelude.{ℕ, ◌+◌, ◌-◌, nat_lt, length, slice_index, if◌then◌else◌}
use Rattle.flow_model.specs.Network.{Network, Counts}

-- The place of the first edge's arc.
abbrev pub first_edge : Network → ℕ
first_edge net = 1 + length net.blocks

-- The place of the first return's arc.
abbrev pub first_return : Network → ℕ
first_return net = 1 + length net.blocks + length net.edges

-- The count of the edge whose arc has this place; another arc counts nothing.
abbrev pub edge_at : Network → Counts → ℕ → ℕ
edge_at net counts place =
    if nat_lt place (first_edge net) then 0 else slice_index counts.edges (place - first_edge net)
