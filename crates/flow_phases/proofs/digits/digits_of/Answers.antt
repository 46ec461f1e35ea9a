use Rattle.flow_phases.proofs.DigitLemmas.{decided, found_within, one_more_digit, starts_are_within}
use Rattle.flow_phases.proofs.digits.digits_of.Goals as goal

pub returns-then-are_within-clause-within : goal.returns-then-are_within-clause-within
returns-then-are_within-clause-within c =
    found_within c.args.net.now c.loop-digits.digits c.are_within.result c.if-are_within.true
    (decided c.args.net.now c.arcs-arcs.result.now c.loop-digits.digits c.are_within.result c.arcs-arcs.ensures.arcs c.are_within.ensures)

pub loop-digits-preserved : goal.loop-digits-preserved
loop-digits-preserved c =
    one_more_digit c.args.net.now c.loop-digits.digits c.are_within.result c.if-are_within.false
    (decided c.args.net.now c.arcs-arcs.result.now c.loop-digits.digits c.are_within.result c.arcs-arcs.ensures.arcs c.are_within.ensures)
    c.loop-digits.invariant

pub returns-clause-within : goal.returns-clause-within
returns-clause-within c = starts_are_within c.args.net.now c.arcs-arcs.ensures.of_a_function
