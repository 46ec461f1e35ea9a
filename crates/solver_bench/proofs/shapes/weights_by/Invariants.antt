use Rattle.flow_model.specs.Sound.{AreWeights}
use Rattle.solver_bench.proofs.shapes.weights_by.Given as goal

abbrev pub invariant-loop-block : goal.invariant-loop-block
invariant-loop-block l = AreWeights l.block l.weights.items
