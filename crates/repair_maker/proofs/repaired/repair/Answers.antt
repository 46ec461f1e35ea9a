use Rattle.std.proofs.Common.{ap, ◌∙◌}
use Rattle.flow_model.specs.Network.{network_of}
use Rattle.repair_model.specs.Made.{weighed_edges}
use Rattle.repair_maker.specs.Told.{edges_told}
use Rattle.repair_maker.proofs.repaired.repair.Goals as goal

pub returns-clause-repaired : goal.returns-clause-repaired
returns-clause-repaired c = record {
  weighed = c.in_ok-weights.ensures.told;
  small = c.in_ok-weights.ensures.small c.requires.small;
  edges_weighed = c.in_ok-edge_weights.ensures.told ∙ ap (weighed_edges (edges_told c.args.edges) c.args.fun.now.blocks c.args.fun.now.edges) c.deref.ensures.value;
  edges_small = c.in_ok-edge_weights.ensures.small;
  net_is = c.in_ok-net.ensures
      ∙ ap (λ ws. network_of c.args.fun.now.blocks c.args.fun.now.edges ws c.deref-3.result.now) c.deref-2.ensures.value
      ∙ ap (network_of c.args.fun.now.blocks c.args.fun.now.edges c.in_ok-weights.weights.items) c.deref-3.ensures.value;
  solves = c.in_ok-solved.ensures.solved;
}
