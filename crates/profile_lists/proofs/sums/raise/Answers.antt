use Rattle.std.proofs.Common.{arith}
use Rattle.profile_lists.proofs.LoopLemmas.{raise_more}
use Rattle.profile_lists.proofs.sums.raise.Goals as goal

pub loop-sum-preserved : goal.loop-sum-preserved
loop-sum-preserved c =
    raise_more c.args.count c.loop-sum.sum-index c.saturating_add.result c.args.sums.now c.loop-sum.sums (omega arith) c.loop-sum.invariant c.saturating_add.ensures
