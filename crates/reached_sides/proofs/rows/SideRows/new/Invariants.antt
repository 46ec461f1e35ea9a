use Rattle.std.proofs.Common.{◌≡◌, [], replicate}
use Rattle.reached_sides.proofs.rows.SideRows.new.Given as goal

-- The rows so far have no sides.
abbrev pub invariant-loop-row : goal.invariant-loop-row
invariant-loop-row l = l.rows.items ≡ replicate l._row []
