use Rattle.std.proofs.Common.{length}
use Rattle.path_search.specs.Search.{IsWaiting}
use Rattle.path_search.proofs.next.next_open.Given as goal

abbrev pub invariant-loop-distance : goal.invariant-loop-distance
invariant-loop-distance l = IsWaiting l.marks l.frontier

abbrev pub decreases-loop-distance : goal.decreases-loop-distance
decreases-loop-distance l = length l.frontier
