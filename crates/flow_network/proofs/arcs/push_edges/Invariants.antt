use Rattle.std.proofs.Common.{◌≡◌, ◌++◌, drop}
use Rattle.flow_model.specs.Network.{edge_arcs}
use Rattle.flow_network.proofs.arcs.push_edges.Given as goal

abbrev pub invariant-loop-at : goal.invariant-loop-at
invariant-loop-at l =
    l.arcs.items ++ edge_arcs (drop l.at l.edges) (drop l.at l.weights) ≡ l.initial.arcs.items ++ edge_arcs l.edges l.weights
