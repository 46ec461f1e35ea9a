use Rattle.std.proofs.Common.{◌∙◌, ap}
use Rattle.branch_stacks.specs.Reader.{Reading}
use Rattle.program_edge.proofs.ReachedLemmas.{cause-on}
use Rattle.program_edge.proofs.SamplesLemmas.{text-counted, text-stopped}
use Rattle.program_edge.proofs.samples.sampled.Goals as goal

pub returns-in_err-count_text-clause-read : goal.returns-in_err-count_text-clause-read
returns-in_err-count_text-clause-read g c = record {
  file =
      text-stopped _ c.args.perf.now _ 2 c.in_ok-reader.reader.loading _ c.in_err-count_text.field-0.0 c.count_text.new.counts _
      c.in_ok-open_file.ensures.file c.in_err-count_text.ensures.text c.from_residual-in_err-count_text.ensures.1;
  opened = c.in_err-count_text.ensures.opens ∙ c.in_ok-open_file.ensures.opens;
  cause = cause-on (Unit {0}) 2 c.in_err-count_text.field-0.0 _ _ _ _ c.in_err-count_text.ensures.cause c.in_ok-open_file.ensures.cause.0 c.from_residual-in_err-count_text.ensures.1;
}

pub returns-clause-read : goal.returns-clause-read
returns-clause-read g c = record {
  file =
      text-counted _ c.args.perf.now _ 2 c.in_ok-reader.reader.loading _ c.count_text.new.counts c.in_ok-open_file.ensures.file c.in_ok-count_text.ensures.text
      (ap (λ (r : Reading). r.loading) c.in_ok-reader.ensures);
  opened = c.in_ok-count_text.ensures.opens ∙ c.in_ok-open_file.ensures.opens;
  cause = (c.in_ok-count_text.ensures.cause.0 ∙ c.in_ok-open_file.ensures.cause.0, tt);
}
