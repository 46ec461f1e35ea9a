use Rattle.std.proofs.Common.{◌≡◌, map, take}
use Rattle.profile_tree.specs.Rows.{line_of}
use Rattle.profile_tree.proofs.lines.lines_of.Given as goal

abbrev pub invariant-loop-row : goal.invariant-loop-row
invariant-loop-row l = l.lines.items ≡ map (line_of l.parts) (take l.row-index l.rows)
