use Rattle.std.proofs.Common.{◌+◌, ◌-◌, arith, refl, sym, ◌∙◌}
use Rattle.std.specs.Vec.{with_items}
use Rattle.std.proofs.lemmas.Result.{IfOk-weaker, on_ok_weaker}
use Rattle.flow_phases.proofs.BeginLemmas.{closed_in, next_begun, next_can, next_come, priced_in, priced_units, ready_in, still_small, written}
use Rattle.flow_phases.proofs.SizeLemmas.{units_few}
use Rattle.flow_phases.proofs.CountLemmas.{rises_weaker, small_size}
use Rattle.flow_phases.proofs.phases.run_next.Goals as goal

pub double-requires : goal.double-requires
double-requires c =
    let before = c.requires.step in
    let most = c.requires.digits in
    let held = c.args.state.now in
    rw c.deref_mut.ensures.value
    (still_small c.args.step held.counts.items held.excess.items (omega (arith, before, most)) c.requires.come.low)

pub set_all_right-requires-clause-begun : goal.set_all_right-requires-clause-begun
set_all_right-requires-clause-begun c =
    let twice = rw c.deref_mut.ensures.value at c.double.ensures in
    let now = c.deref_mut-2.ensures.value ∙ written c.args.state.now.counts _ _ c.double.auto.counts c.deref_mut.ensures.len in
    rw (now, c.deref.ensures.value, c.deref_mut-3.ensures.value)
    (next_begun c.args.net.now c.in_ok-units.units c.args.digits c.args.step c.args.state.now c.double.new.counts
    c.in_ok-units.ensures twice c.requires.of_a_function c.requires.step c.requires.come)

pub set_all_right-requires-clause-priced : goal.set_all_right-requires-clause-priced
set_all_right-requires-clause-priced c =
    rw c.deref.ensures.value (priced_units c.args.net.now c.in_ok-units.units _ c.args.state.now c.in_ok-units.ensures
    (priced_in c.args.net.now c.args.digits c.args.step c.args.state.now c.requires.come))

pub set_all_right-requires-clause-small : goal.set_all_right-requires-clause-small
set_all_right-requires-clause-small c = rw c.deref.ensures.value c.requires.come.done.state.ground.small

pub run-requires-clause-ready : goal.run-requires-clause-ready
run-requires-clause-ready c =
    let twice = rw c.deref_mut.ensures.value at c.double.ensures in
    let now = c.deref_mut-2.ensures.value ∙ written c.args.state.now.counts _ _ c.double.auto.counts c.deref_mut.ensures.len in
    let right = rw (now, c.deref.ensures.value) at c.set_all_right.ensures in
    let begun = next_can c.args.net.now c.in_ok-units.units c.args.digits c.args.step c.args.state.now c.double.new.counts
    c.set_all_right.new.counts c.set_all_right.new.excess c.in_ok-units.ensures twice c.requires.of_a_function c.requires.step c.requires.digits
    c.requires.come right in
    let counts = written (with_items c.args.state.now.counts c.double.new.counts) _ _ c.set_all_right.auto.counts c.deref_mut-2.ensures.len in
    let excess = written c.args.state.now.excess _ _ c.set_all_right.auto.excess c.deref_mut-3.ensures.len in
    ready_in _ (c.args.step + 1) _ _ _ _ counts refl excess begun
    (c.requires.marked ∙ sym (priced_in c.args.net.now c.args.digits c.args.step c.args.state.now c.requires.come))

pub returns-clause-done : goal.returns-clause-done
returns-clause-done c =
    let twice = rw c.deref_mut.ensures.value at c.double.ensures in
    let now = c.deref_mut-2.ensures.value ∙ written c.args.state.now.counts _ _ c.double.auto.counts c.deref_mut.ensures.len in
    let right = rw (now, c.deref.ensures.value) at c.set_all_right.ensures in
    let begun = next_can c.args.net.now c.in_ok-units.units c.args.digits c.args.step c.args.state.now c.double.new.counts
    c.set_all_right.new.counts c.set_all_right.new.excess c.in_ok-units.ensures twice c.requires.of_a_function c.requires.step c.requires.digits
    c.requires.come right in
    let counts = written (with_items c.args.state.now.counts c.double.new.counts) _ _ c.set_all_right.auto.counts c.deref_mut-2.ensures.len in
    let excess = written c.args.state.now.excess _ _ c.set_all_right.auto.excess c.deref_mut-3.ensures.len in
    IfOk-weaker c.run.result _ _
    (λ is_even gives even.
    next_come c.args.net.now c.in_ok-units.units c.args.digits c.args.step _ _ _ _ _ (gives even) c.in_ok-units.ensures counts refl excess begun)
    c.run.ensures.evened

pub returns-clause-counted : goal.returns-clause-counted
returns-clause-counted c =
    rises_weaker _ _ _ _ (units_few c.args.net.now c.in_ok-units.units (c.args.digits - c.args.step - 1) c.in_ok-units.ensures c.requires.of_a_function)
    c.run.ensures.counted

pub returns-clause-marked : goal.returns-clause-marked
returns-clause-marked c =
    on_ok_weaker c.run.result (λ marked. marked ∙ priced_in c.args.net.now c.args.digits c.args.step c.args.state.now c.requires.come)
    c.run.ensures.marked

pub returns-clause-closed : goal.returns-clause-closed
returns-clause-closed c =
    IfOk-weaker c.run.result _ _
    (λ is_even gives odd. closed_in c.args.net.now c.in_ok-units.units _ _ c.in_ok-units.ensures (gives odd)) c.run.ensures.closed

pub run-requires-clause-room : goal.run-requires-clause-room
run-requires-clause-room c =
    let few = units_few c.args.net.now c.in_ok-units.units (c.args.digits - c.args.step - 1) c.in_ok-units.ensures c.requires.of_a_function in
    let small = small_size c.args.net.now c.requires.of_a_function in
    let room = c.requires.room in
    omega (arith, few, small, room)
