use Rattle.flow_model.specs.Network.{arcs_of}
use Rattle.path_search.specs.Ground.{arc_at, count_at}
use Rattle.path_search.specs.Search.{LedAlong}
use Rattle.path_search.specs.Ways.{KeepWays}
use Rattle.path_search.proofs.AroundLemmas.{HasLooked}
use Rattle.path_search.proofs.around.look_out.Given as goal

abbrev pub invariant-loop-place : goal.invariant-loop-place
invariant-loop-place l = record {
  looked : HasLooked (λ marks place. LedAlong l.prices marks l.distance (arc_at (arcs_of l.net) place) (count_at l.counts place))
      l.prices l.fn.marks l.marks l.frontier l.distance l.row l.place-index;
  ways : KeepWays l.net l.counts l.prices l.side l.distance l.fn.marks l.marks;
}
