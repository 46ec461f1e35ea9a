use Rattle.std.proofs.Common.{◌≡◌, ◌≤◌, length}
use Rattle.std.specs.Slice.Iter.{windows_rest, windows_size}
use Rattle.branch_counts.proofs.TableLemmas.{AddsRangesSoFar}
use Rattle.branch_counts.proofs.table.Table.add_ranges.Given as goal

abbrev pub invariant-loop-neighbours : goal.invariant-loop-neighbours
invariant-loop-neighbours l =
    (goal.iterator-loop-neighbours).can_next l.neighbours-iterator
    × (goal.iterator-loop-neighbours).is_finite l.neighbours-iterator
    × (windows_size l.neighbours-iterator ≡ 2)
    × AddsRangesSoFar l.initial.self.rows l.self.rows l.branches (windows_rest l.neighbours-iterator)
    × (length (windows_rest l.neighbours-iterator) ≤ l.self.room)
