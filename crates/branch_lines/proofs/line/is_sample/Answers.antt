use Rattle.std.proofs.Common.{◌≡◌, ◌||◌, ap, sym, ◌∙◌}
use Rattle.std.specs.Prelude.{not}
use Rattle.text_model.specs.LineTests.{is_blank_line, is_comment}
use Rattle.sample_model.specs.Line.{is_sample, is_other_record}
use Rattle.branch_lines.proofs.LineLemmas.{or-then, or-else, or_regroup}
use Rattle.branch_lines.proofs.line.is_sample.Goals as goal
use Rattle.branch_lines.proofs.line.is_sample.Goals.{then-is_blank_line, else-is_blank_line, then-is_comment, else-is_comment}

pub returns : goal.returns
unfolding is_sample
returns c =
    let line = c.args.line.now in
    let front : c.if-is_blank_line.value ≡ (is_blank_line line || is_comment line) = elim c.if-is_blank_line.branch [
      | then-is_blank_line w ↦ or-then _ _ _ (sym c.is_blank_line.ensures ∙ w.if-is_blank_line.true) (w.value-is ∙ w.if-is_blank_line.true)
      | else-is_blank_line w ↦ or-else _ _ _ (sym c.is_blank_line.ensures ∙ w.if-is_blank_line.false) (w.value-is ∙ w.is_comment.ensures)
    ]
    in
    let all : c.if-is_comment.result ≡ ((is_blank_line line || is_comment line) || is_other_record line) = elim c.if-is_comment.branch [
      | then-is_comment w ↦ or-then _ _ _ (sym front ∙ w.if-is_comment.true) (w.result-is ∙ w.if-is_comment.true)
      | else-is_comment w ↦ or-else _ _ _ (sym front ∙ w.if-is_comment.false) (w.result-is ∙ w.is_other_record.ensures)
    ]
    in
    ap not (all ∙ or_regroup (is_blank_line line) (is_comment line) (is_other_record line))
