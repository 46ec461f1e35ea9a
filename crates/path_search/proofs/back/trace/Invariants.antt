use Rattle.flow_model.specs.Network.{arcs_of}
use Rattle.path_search.proofs.TraceLemmas.{IsTracing, level_at}
use Rattle.path_search.proofs.back.trace.Given as goal

abbrev pub invariant-loop-current : goal.invariant-loop-current
invariant-loop-current l = IsTracing (arcs_of l.net) l.marks l.source l.side l.current l.path.items

abbrev pub decreases-loop-current : goal.decreases-loop-current
decreases-loop-current l = level_at l.marks l.current
