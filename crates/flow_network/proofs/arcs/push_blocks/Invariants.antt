use Rattle.std.proofs.Common.{◌≡◌, ◌++◌, drop}
use Rattle.flow_model.specs.Network.{block_arcs}
use Rattle.flow_network.proofs.arcs.push_blocks.Given as goal

abbrev pub invariant-loop-number : goal.invariant-loop-number
invariant-loop-number l =
    l.arcs.items ++ block_arcs l.number (drop l.number l.blocks) (drop l.number l.weights)
    ≡ l.initial.arcs.items ++ block_arcs 0 l.blocks l.weights
