use Rattle.std.proofs.Common.{◌*◌, ◌≤◌, length}
use Rattle.solver_bench.specs.Edges.{AreEdges}
use Rattle.solver_bench.proofs.shapes.jumps.Given as goal

abbrev pub invariant-loop-from : goal.invariant-loop-from
invariant-loop-from l = record {
  joined : AreEdges l.count l.edges.items;
  few : length l.edges.items ≤ 2 * l.from;
}
