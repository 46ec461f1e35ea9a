use Rattle.std.proofs.Common.{sym, ◌∙◌, arith}
use Rattle.std.proofs.lemmas.Result.{err_from_is_err_and}
use Rattle.branch_lines.proofs.LineLemmas.{cause-too_long, reads_no_sample, ReadsLine-stop, cause-many_entries, reads_sample}
use Rattle.branch_lines.proofs.line.read_line.Goals as goal

pub returns-then-line-gt-MAX_LINE_BYTES-clause-read : goal.returns-then-line-gt-MAX_LINE_BYTES-clause-read
returns-then-line-gt-MAX_LINE_BYTES-clause-read c = λ before. cause-too_long before c.args.line.now c.if-line-gt-MAX_LINE_BYTES.true

pub returns-then-not-is_sample-clause-read : goal.returns-then-not-is_sample-clause-read
returns-then-not-is_sample-clause-read c =
    reads_no_sample _ _ (omega arith) (sym c.is_sample.ensures ∙ c.if-not-is_sample.true) c.clear.ensures.items

pub returns-in_err-read_sample-clause-read : goal.returns-in_err-read_sample-clause-read
returns-in_err-read_sample-clause-read c =
    let p = err_from_is_err_and c.from_residual.result c.from_residual.ensures.1 in
    rw (p.1, p.2) (ReadsLine-stop _ _ (omega arith) (sym c.is_sample.ensures ∙ c.if-not-is_sample.false) c.in_err-read_sample.ensures.read)

pub returns-then-len-gt-MAX_ENTRIES-clause-read : goal.returns-then-len-gt-MAX_ENTRIES-clause-read
returns-then-len-gt-MAX_ENTRIES-clause-read c =
    cause-many_entries _ _ (omega arith) (sym c.is_sample.ensures ∙ c.if-not-is_sample.false) c.in_ok-read_sample.ensures.read (omega arith)

pub returns-clause-read : goal.returns-clause-read
returns-clause-read c = reads_sample _ _ (omega arith) (sym c.is_sample.ensures ∙ c.if-not-is_sample.false) c.in_ok-read_sample.ensures.read (omega arith)
