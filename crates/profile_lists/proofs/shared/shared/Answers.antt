use Rattle.std.proofs.Common.{arith}
use Rattle.profile_lists.specs.Rows.{same_step}
use Rattle.profile_lists.proofs.LoopLemmas.{shared_end}
use Rattle.profile_lists.proofs.shared.shared.Goals as goal

pub returns-else-n-other-clause-count : goal.returns-else-n-other-clause-count
returns-else-n-other-clause-count c =
    shared_end same_step c.args.way.now c.args.other.now c.loop-n.n (omega arith) c.loop-n.invariant.2
