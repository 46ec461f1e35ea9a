use Rattle.std.proofs.Common.{refl}
use Rattle.member_lists.proofs.StackLemmas.{not_above-found, not_above-more, not_above-none, not_above-start}
use Rattle.member_lists.proofs.frame.count_above.Goals as goal

pub loop-count-init : goal.loop-count-init
loop-count-init c = not_above-start _ _ _ refl

pub loop-count-preserved : goal.loop-count-preserved
loop-count-preserved c = not_above-more _ _ _ _ c.loop-count.invariant c.loop-count-test.true c.if-above-depth.false

pub returns-then-above-depth-clause-above : goal.returns-then-above-depth-clause-above
returns-then-above-depth-clause-above c = not_above-found _ _ _ _ c.loop-count.invariant c.loop-count-test.true c.if-above-depth.true

pub returns-clause-above : goal.returns-clause-above
returns-clause-above c = not_above-none _ _ _ c.loop-count.invariant c.loop-count-test.false
