use Rattle.std.proofs.Common.{◌≡◌, take}
use Rattle.report_model.specs.Ranges.{is_class}
use Rattle.report_model.specs.declared.class.RangeClass.TheVariants.{Ran, Reversed, RangeOutside, Crossing}
use Rattle.profile_report.specs.Classed.{times_where}
use Rattle.profile_report.proofs.ranges.count_ranges.Given as goal

abbrev pub invariant-loop-row : goal.invariant-loop-row
invariant-loop-row l =
    let done = take l.row-index l.ranges in
    (l.times.ran ≡ times_where (is_class Ran) done)
    × (l.times.reversed ≡ times_where (is_class Reversed) done)
    × (l.times.outside ≡ times_where (is_class RangeOutside) done)
    × (l.times.crossing ≡ times_where (is_class Crossing) done)
