use Rattle.path_search.proofs.PathLemmas.{pushing_here, pushing_more}
use Rattle.path_search.proofs.pushes.push.Goals as goal

pub push_step-requires : goal.push_step-requires
push_step-requires c = pushing_here _ _ _ _ _ _ c.loop-step-test.true c.loop-step.invariant

pub loop-step-preserved : goal.loop-step-preserved
loop-step-preserved c = rw c.push_step.ensures (pushing_more _ _ _ _ _ _ c.loop-step-test.true c.loop-step.invariant)
