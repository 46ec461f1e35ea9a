use Rattle.std.proofs.Common.{◌-◌, ◌^◌, arith}
use Rattle.report_model.specs.Ranges.{is_class}
use Rattle.report_model.specs.declared.class.RangeClass.TheVariants.{Ran, Reversed, RangeOutside, Crossing}
use Rattle.profile_report.proofs.CountLemmas.{no_range, where-fits}
use Rattle.profile_report.proofs.ranges.count_ranges.Goals as goal

pub overflow_add-times : goal.overflow_add-times
overflow_add-times c =
    omega (arith, where-fits (is_class Ran) c.args.ranges.now c.loop-row.row-index no_range c.loop-row.times.ran (2 ^ 32 - 1) c.loop-row.invariant.0 c.requires c.loop-row-test.true)

pub overflow_add-times-in-Reversed : goal.overflow_add-times-in-Reversed
overflow_add-times-in-Reversed c =
    omega (arith, where-fits (is_class Reversed) c.args.ranges.now c.loop-row.row-index no_range c.loop-row.times.reversed (2 ^ 32 - 1) c.loop-row.invariant.1 c.requires c.loop-row-test.true)

pub overflow_add-times-in-RangeOutside : goal.overflow_add-times-in-RangeOutside
overflow_add-times-in-RangeOutside c =
    omega (arith, where-fits (is_class RangeOutside) c.args.ranges.now c.loop-row.row-index no_range c.loop-row.times.outside (2 ^ 32 - 1) c.loop-row.invariant.2 c.requires c.loop-row-test.true)

pub overflow_add-times-in-Crossing : goal.overflow_add-times-in-Crossing
overflow_add-times-in-Crossing c =
    omega (arith, where-fits (is_class Crossing) c.args.ranges.now c.loop-row.row-index no_range c.loop-row.times.crossing (2 ^ 32 - 1) c.loop-row.invariant.3 c.requires c.loop-row-test.true)
