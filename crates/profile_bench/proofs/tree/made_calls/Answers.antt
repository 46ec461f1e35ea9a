use Rattle.std.proofs.Common.{arith}
use Rattle.profile_bench.proofs.LaidLemmas.{calls_within}
use Rattle.profile_bench.proofs.tree.made_calls.Goals as goal

pub returns-clause-sums : goal.returns-clause-sums
returns-clause-sums c = λ key callee. omega (arith, calls_within c.loop-key.calls.items key callee, c.loop-key.invariant.1)
