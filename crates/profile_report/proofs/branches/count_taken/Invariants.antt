use Rattle.std.proofs.Common.{◌≡◌, take}
use Rattle.report_model.specs.Branches.{is_entry, is_inside}
use Rattle.profile_report.specs.Classed.{all_times, times_where}
use Rattle.profile_report.proofs.branches.count_taken.Given as goal

abbrev pub invariant-loop-row : goal.invariant-loop-row
invariant-loop-row l =
    let done = take l.row-index l.branches in
    (l.taken.all ≡ all_times done) × (l.taken.entries ≡ times_where is_entry done) × (l.taken.inside ≡ times_where is_inside done)
