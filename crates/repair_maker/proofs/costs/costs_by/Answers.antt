use Rattle.block_weights.specs.Counts.{count_in}
use Rattle.key_types.specs.Segments.{key_told}
use Rattle.repair_maker.proofs.CostLemmas.{AddedSoFar-more}
use Rattle.repair_maker.proofs.costs.costs_by.Goals as goal

pub loop-fun-preserved : goal.loop-fun-preserved
loop-fun-preserved c =
    AddedSoFar-more (key_told c.args.counted.now.segments) (count_in c.args.counted.now.counts) c.args.funs.now c.loop-fun.fun-index c.loop-fun.sum.cost c.loop-fun.sum.cuts c.in_ok-sum.sum.cost c.in_ok-sum.sum.cuts c.in_ok-cost_of.field-0 c.fun-item.result
    c.loop-fun.invariant c.loop-fun-test.true c.fun-item.is c.in_ok-cost_of.ensures c.in_ok-sum.ensures.0 c.in_ok-sum.ensures.1
