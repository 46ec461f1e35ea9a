use Rattle.std.proofs.Common.{◌-◌, ◌^◌, arith}
use Rattle.report_model.specs.Branches.{is_entry, is_inside}
use Rattle.profile_report.proofs.CountLemmas.{no_branch, where-fits}
use Rattle.profile_report.proofs.branches.count_taken.Goals as goal

pub overflow_add-taken-in-Entry : goal.overflow_add-taken-in-Entry
overflow_add-taken-in-Entry c =
    omega (arith, where-fits is_entry c.args.branches.now c.loop-row.row-index no_branch c.loop-row.taken.entries (2 ^ 32 - 1) c.loop-row.invariant.1 c.requires c.loop-row-test.true)

pub overflow_add-taken-in-Inside : goal.overflow_add-taken-in-Inside
overflow_add-taken-in-Inside c =
    omega (arith, where-fits is_inside c.args.branches.now c.loop-row.row-index no_branch c.loop-row.taken.inside (2 ^ 32 - 1) c.loop-row.invariant.2 c.requires c.loop-row-test.true)
