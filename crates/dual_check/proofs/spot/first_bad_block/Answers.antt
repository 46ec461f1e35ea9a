use Rattle.std.proofs.Common.{None, arith, length}
use Rattle.std.proofs.lemmas.Bool.{iff_false}
use Rattle.std.proofs.lemmas.List.Elements.{All-get_or}
use Rattle.flow_model.specs.declared.arc.Arc.{Arc}
use Rattle.flow_model.specs.Sound.{IsLimitedArc}
use Rattle.flow_network.specs.Flow.{counts_of, price_of}
use Rattle.flow_network.proofs.CostLemmas.{few_blocks}
use Rattle.flow_model.specs.Passing.{PassesBlock}
use Rattle.dual_check.proofs.FirstLemmas.{each_more, first_fails, limited_blocks}
use Rattle.dual_check.proofs.spot.first_bad_block.Goals as goal

-- what a place past the end of a slice reads as
none : Arc
none = record { tail = 0; head = 0; lower = 0; upper = None; weight = 0; up = 0; down = 0 }

pub block_passes-requires-clause-entered : goal.block_passes-requires-clause-entered
unfolding none
block_passes-requires-clause-entered c =
    let net = c.args.net.now in
    let within = rw c.blocks-arc-items.ensures.arcs at c.loop-at-test.true in
    rw c.blocks-arc-items.ensures.arcs
    (All-get_or (IsLimitedArc (length net.blocks)) net.blocks c.loop-at.at none within (limited_blocks net c.blocks-arc-items.ensures.of_a_function)).starts

pub block_passes-requires-clause-left : goal.block_passes-requires-clause-left
unfolding none
block_passes-requires-clause-left c =
    let net = c.args.net.now in
    let within = rw c.blocks-arc-items.ensures.arcs at c.loop-at-test.true in
    rw c.blocks-arc-items.ensures.arcs
    (All-get_or (IsLimitedArc (length net.blocks)) net.blocks c.loop-at.at none within (limited_blocks net c.blocks-arc-items.ensures.of_a_function)).goes

pub overflow_cast-result : goal.overflow_cast-result
overflow_cast-result c =
    let within = rw c.blocks-arc-items.ensures.arcs at c.loop-at-test.true in
    let few = few_blocks c.args.net.now c.blocks-arc-items.ensures.of_a_function in
    omega (arith, within, few)

pub returns-then-not-block_passes-clause-first : goal.returns-then-not-block_passes-clause-first
unfolding none
returns-then-not-block_passes-clause-first c =
    let net = c.args.net.now in
    let within = rw c.blocks-arc-items.ensures.arcs at c.loop-at-test.true in
    let passes = rw (c.blocks-arc-items.ensures.arcs, c.as_slice-counts.ensures) at c.block_passes.ensures in
    first_fails (PassesBlock net (counts_of c.args.flow.now) (price_of c.args.prices.now)) net.blocks c.args.flow.now.blocks c.loop-at.at none within c.requires.blocks
    c.loop-at.invariant (iff_false passes c.if-not-block_passes.true)

pub loop-at-preserved : goal.loop-at-preserved
unfolding none
loop-at-preserved c =
    let net = c.args.net.now in
    let within = rw c.blocks-arc-items.ensures.arcs at c.loop-at-test.true in
    let passes = rw (c.blocks-arc-items.ensures.arcs, c.as_slice-counts.ensures) at c.block_passes.ensures in
    each_more (PassesBlock net (counts_of c.args.flow.now) (price_of c.args.prices.now)) net.blocks c.args.flow.now.blocks c.loop-at.at none within c.requires.blocks
    c.loop-at.invariant (passes.0 c.if-not-block_passes.false)
