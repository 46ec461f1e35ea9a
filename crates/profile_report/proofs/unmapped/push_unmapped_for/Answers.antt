use Rattle.std.proofs.Common.{◌++◌, List, ℕ, ap, get_or, sym, ◌∙◌}
use Rattle.profile_report.specs.Classed.{line_for}
use Rattle.profile_report.proofs.CountLemmas.{lines-with, lines-without, no_branch}
use Rattle.std.proofs.lemmas.Result.{err_from_is_err_and}
use Rattle.text_scan.proofs.Growth.{in_front_behind}
use Rattle.profile_report.proofs.unmapped.push_unmapped_for.Goals as goal
use Rattle.profile_report.proofs.unmapped.push_unmapped_for.Goals.{then-is_unmapped_for+in_ok-push_unmapped_line, else-is_unmapped_for}

pub loop-row-preserved : goal.loop-row-preserved
loop-row-preserved c =
    let rows = c.args.branches.now in
    let i = c.loop-row.row-index in
    elim c.if-is_unmapped_for.branch [
      | then-is_unmapped_for+in_ok-push_unmapped_line w ↦
          ap (λ v. v.items) w.out-is ∙ w.in_ok-push_unmapped_line.ensures.appended
          ∙ ap (λ (t : List ℕ). t ++ line_for c.args.reason (get_or rows i no_branch)) c.loop-row.invariant
          ∙ lines-with c.args.out.now.items rows i no_branch c.args.reason c.loop-row-test.true (sym c.is_unmapped_for.ensures ∙ w.if-is_unmapped_for.true)
      | else-is_unmapped_for w ↦
          ap (λ v. v.items) w.out-is ∙ c.loop-row.invariant ∙ lines-without c.args.out.now.items rows i no_branch c.args.reason c.loop-row-test.true (sym c.is_unmapped_for.ensures ∙ w.if-is_unmapped_for.false)
    ]

pub returns-in_err-push_unmapped_line-clause-grows : goal.returns-in_err-push_unmapped_line-clause-grows
returns-in_err-push_unmapped_line-clause-grows c =
    let p = err_from_is_err_and c.from_residual.result c.from_residual.ensures.1 in
    rw p.1 (in_front_behind _ _ _ _ c.loop-row.invariant c.in_err-push_unmapped_line.ensures.grows)
