-- Networks in coarser units: what their bounds and weights are in units of 2^shift.
use Rattle.std.specs.Prelude.{ℕ, ◌/◌, ◌^◌, map}
use Rattle.std.specs.Int.{div_ceil}
use Rattle.std.specs.Option.{option_map}
use Rattle.flow_model.specs.declared.arc.Arc.{Arc}
use Rattle.flow_model.specs.Network.{Network}

-- How many units are whole in a number.
abbrev pub whole_units : ℕ → ℕ → ℕ
whole_units shift n = n / 2 ^ shift

-- How many units a number takes, begun ones too.
abbrev pub begun_units : ℕ → ℕ → ℕ
begun_units shift n = div_ceil n (2 ^ shift)

-- An arc in such units: its lower bound rounded down, its upper bound and its weight rounded up.
-- Why: Augmentations are bounded by scaling the network, not the steps: a coarse network is again one of a function
-- with the same arcs, and a cut of it is a cut. So no dear arcs are added, and nothing has to be read behind the last
-- phase.
abbrev pub coarse_arc : ℕ → Arc → Arc
coarse_arc shift arc = record arc {
  lower = whole_units shift arc.lower;
  upper = option_map (begun_units shift) arc.upper;
  weight = begun_units shift arc.weight;
}

-- A network in such units: the arcs of its blocks and its edges. Calls, of which one is enough, and returns, which have
-- no bounds, are as they were.
abbrev pub coarse : ℕ → Network → Network
coarse shift net = record net {
  blocks = map (coarse_arc shift) net.blocks;
  edges = map (coarse_arc shift) net.edges;
}
