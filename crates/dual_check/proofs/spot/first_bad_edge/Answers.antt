use Rattle.std.proofs.Common.{None, arith}
use Rattle.std.proofs.lemmas.Bool.{iff_false}
use Rattle.flow_model.specs.declared.arc.Arc.{Arc}
use Rattle.flow_network.specs.Flow.{price_of}
use Rattle.flow_network.proofs.CostLemmas.{few_edges}
use Rattle.flow_model.specs.Passing.{PassesEdge}
use Rattle.dual_check.proofs.FirstLemmas.{each_more, first_fails}
use Rattle.dual_check.proofs.spot.first_bad_edge.Goals as goal

-- what a place past the end of a slice reads as
none : Arc
none = record { tail = 0; head = 0; lower = 0; upper = None; weight = 0; up = 0; down = 0 }

pub overflow_cast-result : goal.overflow_cast-result
overflow_cast-result c =
    let within = rw c.edges-arc-items.ensures.arcs at c.loop-at-test.true in
    let few = few_edges c.args.net.now c.edges-arc-items.ensures.of_a_function in
    omega (arith, within, few)

pub returns-then-not-edge_passes : goal.returns-then-not-edge_passes
unfolding none
returns-then-not-edge_passes c =
    let net = c.args.net.now in
    let within = rw c.edges-arc-items.ensures.arcs at c.loop-at-test.true in
    let passes = rw (c.edges-arc-items.ensures.arcs, c.as_slice-counts.ensures) at c.edge_passes.ensures in
    first_fails (PassesEdge (price_of c.args.prices.now)) net.edges c.args.flow.now.edges c.loop-at.at none within c.requires.edges
    c.loop-at.invariant (iff_false passes c.if-not-edge_passes.true)

pub loop-at-preserved : goal.loop-at-preserved
unfolding none
loop-at-preserved c =
    let net = c.args.net.now in
    let within = rw c.edges-arc-items.ensures.arcs at c.loop-at-test.true in
    let passes = rw (c.edges-arc-items.ensures.arcs, c.as_slice-counts.ensures) at c.edge_passes.ensures in
    each_more (PassesEdge (price_of c.args.prices.now)) net.edges c.args.flow.now.edges c.loop-at.at none within c.requires.edges
    c.loop-at.invariant (passes.0 c.if-not-edge_passes.false)
