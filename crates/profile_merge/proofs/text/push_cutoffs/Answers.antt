use Rattle.std.proofs.Common.{◌≡◌, ◌++◌, take, ap, ◌∙◌, arith}
use Rattle.std.specs.List.{flat_map}
use Rattle.text_scan.proofs.Growth.{in_front_behind}
use Rattle.profile_model.specs.Summary.{cutoff_text, cutoffs}
use Rattle.profile_merge.proofs.SummaryLemmas.{any_err, cutoffs_more}
use Rattle.profile_merge.proofs.text.push_cutoffs.Goals as goal

pub returns-in_err-push_cutoff-clause-grows : goal.returns-in_err-push_cutoff-clause-grows
returns-in_err-push_cutoff-clause-grows c =
    any_err c.from_residual.result (in_front_behind _ _ _ _ c.loop-cutoff.invariant c.in_err-push_cutoff.ensures.grows)

pub returns-clause-appended : goal.returns-clause-appended
returns-clause-appended c =
    let all : c.loop-cutoff.cutoff-index ≡ 16 = omega arith in
    c.loop-cutoff.invariant ∙ ap (λ n. c.args.out.now.items ++ flat_map (cutoff_text c.args.counts.now) (take n cutoffs)) all

pub loop-cutoff-preserved : goal.loop-cutoff-preserved
loop-cutoff-preserved c =
    cutoffs_more c.args.counts.now c.args.out.now.items c.loop-cutoff.out.items c.push_cutoff.new.out.items c.loop-cutoff.cutoff-index (omega arith)
    c.loop-cutoff.invariant c.in_ok-push_cutoff.ensures.appended
