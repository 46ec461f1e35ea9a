use Rattle.std.proofs.Common.{◌≡◌, ◌++◌, take}
use Rattle.std.specs.List.{flat_map}
use Rattle.profile_report.specs.Classed.{lines_for}
use Rattle.profile_report.proofs.unmapped.push_unmapped.Given as goal

abbrev pub invariant-loop-reason : goal.invariant-loop-reason
invariant-loop-reason l = l.out.items ≡ l.initial.out.items ++ flat_map (lines_for l.branches) (take l.reason-index l.reason-items)
