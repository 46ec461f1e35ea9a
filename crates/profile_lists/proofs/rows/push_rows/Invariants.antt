use Rattle.std.proofs.Common.{◌≡◌, ◌≤◌, ◌++◌, drop, length, reverse}
use Rattle.profile_lists.specs.Rows.{rows_along}
use Rattle.profile_lists.proofs.rows.push_rows.Given as goal

abbrev pub invariant-loop-depth : goal.invariant-loop-depth
invariant-loop-depth l =
    (l.from ≤ l.depth) × (l.depth ≤ length l.item.way.items)
    × (l.rows.items ≡ l.initial.rows.items ++ reverse (drop l.depth (rows_along l.item 0 l.item.way.items l.sums)))

abbrev pub decreases-loop-depth : goal.decreases-loop-depth
decreases-loop-depth l = l.depth
