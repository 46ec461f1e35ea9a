use Rattle.flow_network.proofs.CostLemmas.{CostsTo}
use Rattle.flow_network.proofs.costs.cost_over.Given as goal

abbrev pub invariant-loop-at : goal.invariant-loop-at
invariant-loop-at l = CostsTo l.arcs l.counts l.at l.sum
