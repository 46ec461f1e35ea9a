use Rattle.std.proofs.Common.{◌-◌, ◌<◌, ◌≤◌, length}
use Rattle.std.specs.List.{AllWithin}
use Rattle.block_weights.proofs.counted.end_below.Given as goal

abbrev pub invariant-loop-end : goal.invariant-loop-end
invariant-loop-end l =
    (l.first ≤ l.end) × (l.end ≤ length l.segments) × AllWithin (λ segment. segment.lo < l.hi) l.segments l.first l.end

abbrev pub decreases-loop-end : goal.decreases-loop-end
decreases-loop-end l = length l.segments - l.end
