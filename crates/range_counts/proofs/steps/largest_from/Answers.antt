use Rattle.std.proofs.Common.{add-one, arith}
use Rattle.range_counts.proofs.LargestLemmas.{LargestSoFar-none, LargestSoFar-more, LargestSoFar-all}
use Rattle.range_counts.proofs.steps.largest_from.Goals as goal

pub loop-end-init : goal.loop-end-init
loop-end-init c = LargestSoFar-none _ _ _ _ c.requires.ascend c.requires.within c.hits_behind-largest.ensures

pub loop-end-preserved : goal.loop-end-preserved
loop-end-preserved c =
    rw (add-one, c.max-largest.ensures)
    (LargestSoFar-more _ _ _ _ _ c.requires.ascend c.loop-end.invariant c.loop-end-test.true c.if-steps-end.true)

pub returns-else-steps-end-clause-largest : goal.returns-else-steps-end-clause-largest
returns-else-steps-end-clause-largest c =
    LargestSoFar-all _ _ _ _ _ (omega arith) c.loop-end.invariant (λ inside. omega arith)

pub returns-after-loop-end-clause-largest : goal.returns-after-loop-end-clause-largest
returns-after-loop-end-clause-largest c =
    LargestSoFar-all _ _ _ _ _ (omega arith) c.loop-end.invariant (λ inside. omega arith)
