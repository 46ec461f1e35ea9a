use Rattle.std.proofs.Common.{arith}
use Rattle.range_counts.proofs.StepLemmas.{behind}
use Rattle.range_counts.proofs.steps.hits_behind.Goals as goal

pub returns-else-next-eq0 : goal.returns-else-next-eq0
returns-else-next-eq0 c = behind _ _ _ (omega arith) c.requires
