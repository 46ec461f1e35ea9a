use Rattle.case_maker.proofs.Joins.{none_yet, one_more}
use Rattle.case_maker.proofs.samples.push_samples.Goals as goal

pub loop-k-init : goal.loop-k-init
loop-k-init c = none_yet _ _

pub loop-k-preserved : goal.loop-k-preserved
loop-k-preserved c = one_more _ _ _ _ _ c.loop-k.invariant (c.in_ok-push_function.ensures)
