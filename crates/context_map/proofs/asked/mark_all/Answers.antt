use Rattle.context_map.proofs.AskLemmas.{AsksSoFar-all, AsksSoFar-more}
use Rattle.context_map.proofs.asked.mark_all.Goals as goal

pub loop-span-preserved : goal.loop-span-preserved
loop-span-preserved c = AsksSoFar-more _ _ _ _ _ _ c.loop-span-test.true c.loop-span.invariant c.mark.ensures.asked c.mark.ensures.kept

pub returns-clause-asked : goal.returns-clause-asked
returns-clause-asked c = AsksSoFar-all _ _ _ _ c.loop-span-test.false c.loop-span.invariant
