use Rattle.std.proofs.Common.{◌∙◌}
use Rattle.std.proofs.lemmas.Result.{err_from_is_err_and}
use Rattle.branch_lines.proofs.LineLemmas.{EntriesSoFar-more, ReadsSample-stop, ReadsSample-all}
use Rattle.branch_lines.proofs.line.read_sample.Goals as goal

pub loop-field-preserved : goal.loop-field-preserved
loop-field-preserved c = (
  EntriesSoFar-more _ _ _ _ _ _ c.loop-field.invariant.0 c.in-Some.ensures.steps c.in_ok-push_entry.ensures.read,
  c.in_ok-push_entry.ensures.capacity ∙ c.loop-field.invariant.1,
)

pub returns-in_err-push_entry-clause-read : goal.returns-in_err-push_entry-clause-read
returns-in_err-push_entry-clause-read c =
    let p = err_from_is_err_and c.from_residual.result c.from_residual.ensures.1 in
    rw (p.1, p.2) (ReadsSample-stop _ _ _ _ _ _ c.loop-field.invariant.0 c.in-Some.ensures.steps c.in_err-push_entry.ensures.read)

pub returns-clause-read : goal.returns-clause-read
returns-clause-read c = ReadsSample-all _ _ _ c.loop-field.invariant.0 c.in-None.ensures.steps.0
