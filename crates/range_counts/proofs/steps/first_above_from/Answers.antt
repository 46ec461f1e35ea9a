use Rattle.std.proofs.Common.{arith}
use Rattle.range_counts.proofs.StepLemmas.{first_above-at}
use Rattle.range_counts.proofs.steps.first_above_from.Goals as goal

pub returns-else-steps-above : goal.returns-else-steps-above
returns-else-steps-above c =
    first_above-at _ _ _ c.requires.ascend c.loop-above.invariant.1 c.loop-above.invariant.0 (λ inside. omega arith)
