use Rattle.std.proofs.Common.{◌-◌, ◌≤◌, length}
use Rattle.block_weights.proofs.counted.behind_near.Given as goal

abbrev pub invariant-loop-place : goal.invariant-loop-place
invariant-loop-place l = (l.near ≤ l.place) × (l.place ≤ length l.segments)

abbrev pub decreases-loop-place : goal.decreases-loop-place
decreases-loop-place l = length l.segments - l.place
