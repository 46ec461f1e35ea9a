use Rattle.std.proofs.Common.{◌≡◌, ◌++◌, drop}
use Rattle.flow_network.proofs.coarse.push_all.Given as goal

abbrev pub invariant-loop-arc : goal.invariant-loop-arc
invariant-loop-arc l = l.arcs.items ++ drop l.arc-index l.more ≡ l.initial.arcs.items ++ l.more
