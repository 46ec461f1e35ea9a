use Rattle.std.proofs.Common.{◌∙◌}
use Rattle.profile_merge.proofs.SummaryLemmas.{ok_still, summary_pushed}
use Rattle.profile_merge.proofs.text.push_summary.Goals as goal

pub returns-clause-appended : goal.returns-clause-appended
returns-clause-appended c =
    ok_still c.push_cutoffs.result
    (summary_pushed c.args.out.now.items _ _ _ _ c.push_cutoffs.new.out.items c.args.functions c.args.counts.now c.total_of-total.result c.from.result c.in_ok-push_told.ensures.appended
    c.in_ok-push_told-2.ensures.appended c.total_of-total.ensures.sum c.in_ok-push_told-3.ensures.appended (c.from.ensures ∙ c.max_of.ensures) c.in_ok-push_told-4.ensures.appended)
    c.push_cutoffs.ensures.appended
