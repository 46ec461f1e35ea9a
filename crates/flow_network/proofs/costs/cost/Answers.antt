use Rattle.std.proofs.Common.{List, subst, sym, arith}
use Rattle.std.specs.List.{All}
use Rattle.flow_model.specs.declared.arc.Arc.{Arc}
use Rattle.flow_network.specs.Cost.{IsCheap}
use Rattle.flow_network.specs.Flow.{counts_of}
use Rattle.flow_network.proofs.CostLemmas.{cost_of-is, cheap_blocks, cheap_edges, few_blocks, few_edges}
use Rattle.flow_network.proofs.costs.cost.Goals as goal

pub cost_over-blocks-requires-clause-few : goal.cost_over-blocks-requires-clause-few
cost_over-blocks-requires-clause-few c = rw c.blocks-2.ensures.arcs (few_blocks c.args.net.now c.blocks-2.ensures.of_a_function)

pub cost_over-blocks-requires-clause-cheap : goal.cost_over-blocks-requires-clause-cheap
cost_over-blocks-requires-clause-cheap c =
    subst (λ (list : List Arc). All IsCheap list) (sym c.blocks-2.ensures.arcs) (cheap_blocks c.args.net.now c.blocks-2.ensures.of_a_function)

pub cost_over-edges-requires-clause-few : goal.cost_over-edges-requires-clause-few
cost_over-edges-requires-clause-few c = rw c.edges.ensures.arcs (few_edges c.args.net.now c.edges.ensures.of_a_function)

pub cost_over-edges-requires-clause-cheap : goal.cost_over-edges-requires-clause-cheap
cost_over-edges-requires-clause-cheap c =
    subst (λ (list : List Arc). All IsCheap list) (sym c.edges.ensures.arcs) (cheap_edges c.args.net.now c.edges.ensures.of_a_function)

pub overflow_add-result : goal.overflow_add-result
overflow_add-result c =
    let blocks = rw c.blocks-2.ensures.arcs at c.cost_over-blocks.ensures.small in
    let edges = rw c.edges.ensures.arcs at c.cost_over-edges.ensures.small in
    let few = few_blocks c.args.net.now c.blocks-2.ensures.of_a_function in
    let also = few_edges c.args.net.now c.edges.ensures.of_a_function in
    omega (arith, blocks, edges, few, also)

pub returns : goal.returns
returns c =
    let blocks = rw (c.blocks-2.ensures.arcs, c.as_slice.ensures) at c.cost_over-blocks.ensures.value in
    let edges = rw (c.edges.ensures.arcs, c.as_slice-2.ensures) at c.cost_over-edges.ensures.value in
    rw (blocks, edges) (cost_of-is c.args.net.now (counts_of c.args.flow.now) c.blocks-2.ensures.of_a_function c.requires)
