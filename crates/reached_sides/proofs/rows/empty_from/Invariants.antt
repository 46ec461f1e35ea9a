use Rattle.std.proofs.Common.{◌≡◌, length}
use Rattle.reached_sides.specs.Nearness.{AreEmptyBelow}
use Rattle.reached_sides.proofs.rows.empty_from.Given as goal

-- The rows so far have no sides.
abbrev pub invariant-loop-row : goal.invariant-loop-row
invariant-loop-row l = record {
  all : length l.rows ≡ 64;
  empty : AreEmptyBelow l.row l.rows;
}
