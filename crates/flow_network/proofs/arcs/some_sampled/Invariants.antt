use Rattle.std.proofs.Common.{◌≡◌, drop}
use Rattle.flow_model.specs.Network.{some_sampled}
use Rattle.flow_network.proofs.arcs.some_sampled.Given as goal

abbrev pub invariant-loop-weight : goal.invariant-loop-weight
invariant-loop-weight l = some_sampled (drop l.weight-index l.weights) ≡ some_sampled l.weights
