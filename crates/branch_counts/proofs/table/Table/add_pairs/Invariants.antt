use Rattle.std.proofs.Common.{◌+◌, ◌≤◌, take}
use Rattle.branch_counts.specs.Table.{AddsPairs}
use Rattle.branch_counts.proofs.table.Table.add_pairs.Given as goal

abbrev pub invariant-loop-from : goal.invariant-loop-from
invariant-loop-from l =
    AddsPairs l.initial.self.rows l.self.rows (take l.from-index l.pairs) × (l.initial.self.room ≤ l.self.room + l.from-index)
