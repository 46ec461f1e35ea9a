use Rattle.std.proofs.Common.{◌≡◌, ◌++◌, drop}
use Rattle.flow_model.specs.Network.{return_arcs}
use Rattle.flow_network.proofs.arcs.push_returns.Given as goal

abbrev pub invariant-loop-number : goal.invariant-loop-number
invariant-loop-number l =
    l.arcs.items ++ return_arcs l.number (drop l.number l.blocks) ≡ l.initial.arcs.items ++ return_arcs 0 l.blocks
