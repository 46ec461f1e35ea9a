use Rattle.std.proofs.Common.{◌≡◌, ◌*◌, ◌^◌, ◌≤◌, take}
use Rattle.std.specs.List.{sum_by}
use Rattle.profile_writer.specs.Profile.{total_of_line}
use Rattle.profile_writer.proofs.profile.Profile.total.Given as goal

abbrev pub invariant-loop-line : goal.invariant-loop-line
invariant-loop-line l = (l.total ≡ sum_by total_of_line (take l.line-index l.self.lines)) × (l.total ≤ l.line-index * 2 ^ 64)
