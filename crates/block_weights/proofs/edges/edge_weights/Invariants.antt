use Rattle.std.proofs.Common.{◌≡◌, ◌<◌, ◌≤◌, ◌^◌, length, map, take}
use Rattle.std.specs.List.{AllByRecursion}
use Rattle.flow_model.specs.Network.{weight_of}
use Rattle.profile_model.specs.Steps.{hits_by}
use Rattle.weight_model.specs.Edges.{taken, weight_by}
use Rattle.block_weights.proofs.edges.edge_weights.Given as goal

abbrev pub invariant-loop-edge : goal.invariant-loop-edge
invariant-loop-edge l =
    (l.made.items
    ≡ map (weight_by (taken l.samples.branches) (hits_by l.samples.passing) l.fun.blocks l.weights) (take l.edge-index l.edge-items))
    × AllByRecursion (λ weight. weight_of weight < 2 ^ 44) l.made.items
    × (l.near ≤ length l.samples.branches)
