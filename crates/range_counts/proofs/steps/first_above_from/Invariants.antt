use Rattle.std.proofs.Common.{length, ◌-◌, ◌≤◌}
use Rattle.std.specs.List.{AllWithin}
use Rattle.range_counts.proofs.steps.first_above_from.Given as goal

abbrev pub invariant-loop-above : goal.invariant-loop-above
invariant-loop-above l = (l.above ≤ length l.steps) × AllWithin (λ step. step.at ≤ l.address) l.steps 0 l.above

abbrev pub decreases-loop-above : goal.decreases-loop-above
decreases-loop-above l = length l.steps - l.above
