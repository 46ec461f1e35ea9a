use Rattle.std.proofs.Common.{◌≡◌, ◌≤◌, ◌+◌, ◌-◌, drop, length}
use Rattle.profile_lists.specs.Rows.{shared, same_step}
use Rattle.profile_lists.proofs.shared.shared.Given as goal

abbrev pub invariant-loop-n : goal.invariant-loop-n
invariant-loop-n l =
    (l.n ≤ length l.way) × (l.n ≤ length l.other)
    × (shared same_step l.way l.other ≡ l.n + shared same_step (drop l.n l.way) (drop l.n l.other))

abbrev pub decreases-loop-n : goal.decreases-loop-n
decreases-loop-n l = length l.way - l.n
