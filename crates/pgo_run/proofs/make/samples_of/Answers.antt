use Rattle.std.proofs.Common.{None, ap, subst, sym, ◌∙◌}
use Rattle.text_model.specs.Lines.{lines_of}
use Rattle.sample_model.specs.Judging.{first_bad_of_text}
use Rattle.branch_counts.specs.Tally.{Tells}
use Rattle.command_model.specs.Command.{perf_file}
use Rattle.command_model.specs.Make.{case_file}
use Rattle.pgo_run.proofs.MakeLemmas.{wider-judged}
use Rattle.pgo_run.proofs.make.samples_of.Goals as goal

pub returns-in_err-read_text : goal.returns-in_err-read_text
returns-in_err-read_text c =
    wider-judged (first_bad_of_text 2 c.deref.result.now) (first_bad_of_text 2 (case_file perf_file c.args.functions)) _ _ c.in_err-read_text.field-0.0 _
    (λ place is. ap (first_bad_of_text 2) (sym (c.deref.ensures.value ∙ c.in_ok-text.ensures)) ∙ is) c.in_err-read_text.ensures.judged c.from_residual-in_err-read_text.ensures.1

pub returns : goal.returns
returns c =
    let same = c.deref.ensures.value ∙ c.in_ok-text.ensures in
    let judged = c.in_ok-read_text.ensures.judged in (
      ap (first_bad_of_text 2) (sym same) ∙ judged.0,
      (c.read_text.ensures.ranged ∙ c.in_ok-counts.ensures.2, subst (λ text. Tells None (lines_of text) c.read_text.new.counts) same judged.1),
    )
