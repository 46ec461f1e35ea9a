use Rattle.reached_sides.specs.Nearness.{AreEmptyBelow}
use Rattle.reached_sides.proofs.rows.first_filled.Given as goal

-- The rows so far have no sides.
abbrev pub invariant-loop-row : goal.invariant-loop-row
invariant-loop-row l = AreEmptyBelow l.row l.rows
