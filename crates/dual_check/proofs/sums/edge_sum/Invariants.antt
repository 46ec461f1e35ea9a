use Rattle.std.proofs.Common.{◌≡◌, ◌*◌, ◌^◌, ◌≤◌, take}
use Rattle.std.specs.List.{sum_by}
use Rattle.flow_network.specs.Flow.{counts_of}
use Rattle.dual_check.specs.Places.{edge_at}
use Rattle.dual_check.proofs.sums.edge_sum.Given as goal

abbrev pub invariant-loop-place : goal.invariant-loop-place
invariant-loop-place l =
    (l.sum ≡ sum_by (edge_at l.net (counts_of l.flow)) (take l.place-index l.places)) × (l.sum ≤ l.place-index * 2 ^ 64)
