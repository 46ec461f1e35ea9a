use Rattle.std.proofs.Common.{arith}
use Rattle.profile_bench.proofs.LaidLemmas.{entries_within}
use Rattle.profile_bench.proofs.tree.made_heads.Goals as goal

pub returns-clause-sums : goal.returns-clause-sums
returns-clause-sums c = λ name. omega (arith, entries_within c.loop-name.heads.items name, c.loop-name.invariant.1)
