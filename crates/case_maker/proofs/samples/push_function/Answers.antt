use Rattle.std.proofs.Common.{ap, ◌∙◌, ◌++◌, List, ℕ, drop}
use Rattle.case_maker.proofs.Joins.{line_more, tail_of}
use Rattle.case_maker.proofs.samples.push_function.Goals as goal

pub loop-time-preserved : goal.loop-time-preserved
loop-time-preserved c =
    line_more _ _ _ _ _ c.loop-time.invariant
    (c.in_ok-extend_from_slice.ensures.items
    ∙ ap (λ (line : List ℕ). c.loop-time.out.items ++ line) (tail_of _ ∙ ap (λ (line : List ℕ). drop 2 line) c.deref.ensures.value))
