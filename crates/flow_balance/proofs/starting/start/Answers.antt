use Rattle.std.proofs.Common.{arith, ◌≡◌, ◌<◌, length, ap}
use Rattle.flow_model.specs.Network.{arcs_of}
use Rattle.residual_model.specs.Residual.{starting}
use Rattle.path_search.specs.Ground.{arc_at}
use Rattle.flow_balance.proofs.StartLemmas.{starting_none, arc_is, room_for, starting_more, starting_all}
use Rattle.flow_balance.proofs.starting.start.Goals as goal

pub loop-place-init : goal.loop-place-init
loop-place-init c = starting_none _ _ _ c.requires.counts c.requires.excess

pub transfer-requires-clause-starts : goal.transfer-requires-clause-starts
transfer-requires-clause-starts c =
    let within : c.loop-place.place < length (arcs_of c.args.net.now) = rw c.arcs-arcs.ensures.arcs at c.loop-place-test.true in
    let bound = (arc_is c.args.net.now c.loop-place.place c.arcs-arcs.ensures.of_a_function within).starts in
    let told = c.loop-place.invariant.told in
    rw c.arcs-arcs.ensures.arcs (omega (arith, bound, told))

pub transfer-requires-clause-leads : goal.transfer-requires-clause-leads
transfer-requires-clause-leads c =
    let within : c.loop-place.place < length (arcs_of c.args.net.now) = rw c.arcs-arcs.ensures.arcs at c.loop-place-test.true in
    let bound = (arc_is c.args.net.now c.loop-place.place c.arcs-arcs.ensures.of_a_function within).leads in
    let told = c.loop-place.invariant.told in
    rw c.arcs-arcs.ensures.arcs (omega (arith, bound, told))

pub transfer-requires-clause-up : goal.transfer-requires-clause-up
transfer-requires-clause-up c =
    let within : c.loop-place.place < length (arcs_of c.args.net.now) = rw c.arcs-arcs.ensures.arcs at c.loop-place-test.true in
    let bound = (arc_is c.args.net.now c.loop-place.place c.arcs-arcs.ensures.of_a_function within).leads in
    let told = c.loop-place.invariant.told in
    let room = room_for _ _ _ _ c.arcs-arcs.ensures.of_a_function within c.loop-place.invariant (arc_at (arcs_of c.args.net.now) c.loop-place.place).head (omega (arith, bound, told)) in
    let count : c.starting_count-count.result ≡ starting (arc_at (arcs_of c.args.net.now) c.loop-place.place) = rw c.arcs-arcs.ensures.arcs at c.starting_count-count.ensures in
    rw c.arcs-arcs.ensures.arcs (rw count room.0)

pub transfer-requires-clause-down : goal.transfer-requires-clause-down
transfer-requires-clause-down c =
    let within : c.loop-place.place < length (arcs_of c.args.net.now) = rw c.arcs-arcs.ensures.arcs at c.loop-place-test.true in
    let bound = (arc_is c.args.net.now c.loop-place.place c.arcs-arcs.ensures.of_a_function within).starts in
    let told = c.loop-place.invariant.told in
    let room = room_for _ _ _ _ c.arcs-arcs.ensures.of_a_function within c.loop-place.invariant (arc_at (arcs_of c.args.net.now) c.loop-place.place).tail (omega (arith, bound, told)) in
    let count : c.starting_count-count.result ≡ starting (arc_at (arcs_of c.args.net.now) c.loop-place.place) = rw c.arcs-arcs.ensures.arcs at c.starting_count-count.ensures in
    rw c.arcs-arcs.ensures.arcs (rw count room.1)

pub loop-place-preserved : goal.loop-place-preserved
loop-place-preserved c =
    let within : c.loop-place.place < length (arcs_of c.args.net.now) = rw c.arcs-arcs.ensures.arcs at c.loop-place-test.true in
    let count : c.starting_count-count.result ≡ starting (arc_at (arcs_of c.args.net.now) c.loop-place.place) = rw c.arcs-arcs.ensures.arcs at c.starting_count-count.ensures in
    let moved = rw c.arcs-arcs.ensures.arcs at c.transfer.ensures in
    rw moved (starting_more _ _ _ _ _ c.arcs-arcs.ensures.of_a_function within count c.loop-place.invariant)

pub returns : goal.returns
returns c =
    let past = c.loop-place-test.false in
    let most = c.loop-place.auto.place-end in
    let long = ap length c.arcs-arcs.ensures.arcs in
    starting_all _ _ _ c.loop-place.place (omega (arith, past, long)) (omega (arith, most, long)) c.arcs-arcs.ensures.of_a_function c.loop-place.invariant
