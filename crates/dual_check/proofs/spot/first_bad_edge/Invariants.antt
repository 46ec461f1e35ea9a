use Rattle.std.proofs.Common.{take}
use Rattle.flow_model.specs.Circulation.{EachArc}
use Rattle.flow_network.specs.Flow.{price_of}
use Rattle.flow_model.specs.Passing.{PassesEdge}
use Rattle.dual_check.proofs.spot.first_bad_edge.Given as goal

abbrev pub invariant-loop-at : goal.invariant-loop-at
invariant-loop-at l = EachArc (PassesEdge (price_of l.prices)) (take l.at l.net.edges) (take l.at l.flow.edges)
