use Rattle.std.proofs.lemmas.Result.{err_from_is_err_and}
use Rattle.branch_stacks.proofs.TextLemmas.{Tells_none-nothing}
use Rattle.branch_stacks.proofs.text.read_text.Goals as goal

pub returns-in_err-reader-clause-before : goal.returns-in_err-reader-clause-before
returns-in_err-reader-clause-before c =
    let p = err_from_is_err_and c.from_residual.result c.from_residual.ensures.1 in
    rw (p.1, p.2) (0, Tells_none-nothing _ c.keeps.ensures c.requires)
