use Rattle.std.proofs.Common.{◌≡◌, ◌++◌, drop, map}
use Rattle.scaling_model.specs.Coarse.{coarse_arc}
use Rattle.flow_network.proofs.coarse.push_coarse.Given as goal

abbrev pub invariant-loop-arc : goal.invariant-loop-arc
invariant-loop-arc l = l.arcs.items ++ map (coarse_arc l.shift) (drop l.arc-index l.more) ≡ l.initial.arcs.items ++ map (coarse_arc l.shift) l.more
