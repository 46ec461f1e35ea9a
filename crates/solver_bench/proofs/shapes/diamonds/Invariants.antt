use Rattle.std.proofs.Common.{◌*◌, ◌≤◌, length}
use Rattle.solver_bench.specs.Edges.{AreEdges}
use Rattle.solver_bench.proofs.shapes.diamonds.Given as goal

abbrev pub invariant-loop-choice : goal.invariant-loop-choice
invariant-loop-choice l = record {
  joined : AreEdges l.count l.edges.items;
  few : length l.edges.items ≤ 5 * l.choice;
}
