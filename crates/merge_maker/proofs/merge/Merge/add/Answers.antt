use Rattle.std.proofs.Common.{sym, subst}
use Rattle.std.proofs.lemmas.Result.{err_from_is_err_and}
use Rattle.merge_maker.specs.Merge.{IsMergeOf, State}
use Rattle.merge_maker.proofs.MergeLemmas.{judged_behind, refuses}
use Rattle.merge_maker.proofs.merge.Merge.add.Goals as goal

pub returns-in_err-part : goal.returns-in_err-part
returns-in_err-part c = λ texts so_far.
    let p = err_from_is_err_and c.from_residual.result c.from_residual.ensures.1 in
    rw (p.1, p.2) (refuses _ _ _ _ _ _ _ c.in_err-part.ensures)

pub returns : goal.returns
returns c = λ texts so_far.
    judged_behind _ _ _ _ _ _ texts _ _ _ _ _ (subst (λ (s : State). IsMergeOf s texts) (sym c.self.view_is) so_far) c.requires.size
    c.in_ok-part.ensures.0 c.in_ok-part.ensures.1 c.each_once.ensures c.each_once-2.ensures c.sum.ensures.judged c.sum.ensures.given c.sum.ensures.names c.sum.ensures.keys
