use Rattle.std.proofs.Common.{◌≡◌, ◌++◌, take}
use Rattle.profile_report.specs.Classed.{lines_for}
use Rattle.profile_report.proofs.unmapped.push_unmapped_for.Given as goal

abbrev pub invariant-loop-row : goal.invariant-loop-row
invariant-loop-row l = l.out.items ≡ l.initial.out.items ++ lines_for (take l.row-index l.branches) l.reason
