use Rattle.std.proofs.Common.{◌≡◌, length}
use Rattle.solver_bench.proofs.shapes.flow_of.Given as goal

abbrev pub invariant-loop-from : goal.invariant-loop-from
invariant-loop-from l = length l.flow.items ≡ l.count
