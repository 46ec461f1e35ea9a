use Rattle.std.proofs.Common.{◌++◌, ap, subst, ◌∙◌}
use Rattle.std.specs.Prelude.{IsPermutation}
use Rattle.profile_model.specs.Summary.{summary_by}
use Rattle.profile_merge.proofs.SummaryLemmas.{ok_still, summary_is}
use Rattle.profile_merge.specs.Functions.{different, roots}
use Rattle.profile_merge.specs.Hot.{counts_told}
use Rattle.profile_merge.proofs.text.summary.Goals as goal

pub returns-clause-appended : goal.returns-clause-appended
returns-clause-appended c =
    let functions = c.in_ok-functions.ensures ∙ ap (λ items. different (roots c.args.keys.now items)) c.as_slice-items.ensures in
    let same = subst (λ items. IsPermutation (counts_told items) c.in_ok-counts.counts.items) c.as_slice-items.ensures c.in_ok-counts.ensures.same in
    ok_still c.push_summary.result
    (λ is names are given.
    is ∙ ap (λ text. c.args.out.now.items ++ text)
    (ap (summary_by c.in_ok-functions.functions) c.deref.ensures.value
    ∙ summary_is names c.args.keys.now c.args.part.now.items c.in_ok-functions.functions c.in_ok-counts.counts.items are given functions same))
    c.push_summary.ensures.appended
