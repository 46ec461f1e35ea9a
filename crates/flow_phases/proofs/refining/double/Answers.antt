use Rattle.std.proofs.Common.{arith, refl}
use Rattle.flow_phases.proofs.RightLemmas.{doubling_all, doubling_more, doubling_none}
use Rattle.flow_phases.proofs.refining.double.Goals as goal

pub loop-count-init : goal.loop-count-init
loop-count-init c = doubling_none _

pub overflow_mul-count : goal.overflow_mul-count
overflow_mul-count c =
    let same = c.loop-count.invariant.rest c.loop-count.count-index (omega arith) in
    let small = c.requires c.loop-count.count-index in
    search (arith, same, small)

pub loop-count-preserved : goal.loop-count-preserved
loop-count-preserved c = doubling_more _ _ _ _ c.loop-count-test.true c.loop-count.invariant refl

pub returns : goal.returns
returns c = doubling_all _ _ c.loop-count.count-index c.loop-count-test.false c.loop-count.invariant
