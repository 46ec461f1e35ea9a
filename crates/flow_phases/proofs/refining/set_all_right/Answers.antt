use Rattle.std.proofs.Common.{arith, ◌<◌, length}
use Rattle.flow_model.specs.Network.{arcs_of}
use Rattle.flow_phases.proofs.RightLemmas.{placed_at, right_more}
use Rattle.flow_phases.proofs.refining.set_all_right.Goals as goal

pub set_right-right-requires-clause-starts : goal.set_right-right-requires-clause-starts
set_right-right-requires-clause-starts c =
    let within : c.loop-place.place < length (arcs_of c.args.net.now) = rw c.arcs-arcs.ensures.arcs at c.loop-place-test.true in
    let starts = (placed_at _ _ _ _ _ _ c.arcs-arcs.ensures.of_a_function within c.loop-place.invariant).starts in
    let told = c.loop-place.invariant.told in
    let priced = c.requires.priced in
    rw c.arcs-arcs.ensures.arcs (omega (arith, starts, told, priced))

pub set_right-right-requires-clause-leads : goal.set_right-right-requires-clause-leads
set_right-right-requires-clause-leads c =
    let within : c.loop-place.place < length (arcs_of c.args.net.now) = rw c.arcs-arcs.ensures.arcs at c.loop-place-test.true in
    let leads = (placed_at _ _ _ _ _ _ c.arcs-arcs.ensures.of_a_function within c.loop-place.invariant).leads in
    let told = c.loop-place.invariant.told in
    let priced = c.requires.priced in
    rw c.arcs-arcs.ensures.arcs (omega (arith, leads, told, priced))

pub shift-requires-clause-starts : goal.shift-requires-clause-starts
shift-requires-clause-starts c =
    let within : c.loop-place.place < length (arcs_of c.args.net.now) = rw c.arcs-arcs.ensures.arcs at c.loop-place-test.true in
    let starts = (placed_at _ _ _ _ _ _ c.arcs-arcs.ensures.of_a_function within c.loop-place.invariant).starts in
    rw c.arcs-arcs.ensures.arcs starts

pub shift-requires-clause-leads : goal.shift-requires-clause-leads
shift-requires-clause-leads c =
    let within : c.loop-place.place < length (arcs_of c.args.net.now) = rw c.arcs-arcs.ensures.arcs at c.loop-place-test.true in
    let leads = (placed_at _ _ _ _ _ _ c.arcs-arcs.ensures.of_a_function within c.loop-place.invariant).leads in
    rw c.arcs-arcs.ensures.arcs leads

pub loop-place-preserved : goal.loop-place-preserved
loop-place-preserved c =
    let within : c.loop-place.place < length (arcs_of c.args.net.now) = rw c.arcs-arcs.ensures.arcs at c.loop-place-test.true in
    let is = rw c.arcs-arcs.ensures.arcs at c.set_right-right.ensures in
    let shifted = rw c.arcs-arcs.ensures.arcs at c.shift.ensures in
    right_more _ _ _ _ _ _ _ _ within c.loop-place.invariant is shifted
