use Rattle.std.proofs.Common.{arith, refl, sym, ◌∙◌}
use Rattle.std.proofs.lemmas.Result.{IfOk-weaker, on_ok_weaker}
use Rattle.flow_phases.proofs.BeginLemmas.{closed_in, first_can, first_come, fresh_priced, ready_in, written}
use Rattle.flow_phases.proofs.SizeLemmas.{units_few}
use Rattle.flow_phases.proofs.CountLemmas.{rises_weaker, small_size}
use Rattle.flow_phases.proofs.phases.run_first.Goals as goal

pub run-requires-clause-ready : goal.run-requires-clause-ready
run-requires-clause-ready c =
    let fresh = c.requires.fresh in
    let begun = first_can c.args.net.now c.in_ok-units.units c.args.digits _ _ _ c.in_ok-units.ensures fresh.of_a_function c.requires.within
    c.start.ensures fresh.prices in
    let counts = written c.args.state.now.counts _ _ c.start.auto.counts c.deref_mut.ensures.len in
    let excess = written c.args.state.now.excess _ _ c.start.auto.excess c.deref_mut-2.ensures.len in
    ready_in _ 0 _ _ _ _ counts refl excess begun (fresh.marked ∙ sym (fresh_priced c.args.net.now c.args.state.now fresh))

pub returns-clause-done : goal.returns-clause-done
returns-clause-done c =
    let fresh = c.requires.fresh in
    let begun = first_can c.args.net.now c.in_ok-units.units c.args.digits _ _ _ c.in_ok-units.ensures fresh.of_a_function c.requires.within
    c.start.ensures fresh.prices in
    let counts = written c.args.state.now.counts _ _ c.start.auto.counts c.deref_mut.ensures.len in
    let excess = written c.args.state.now.excess _ _ c.start.auto.excess c.deref_mut-2.ensures.len in
    IfOk-weaker c.run.result _ _
    (λ is_even gives even.
    first_come c.args.net.now c.in_ok-units.units c.args.digits _ _ _ _ _ (gives even) c.in_ok-units.ensures counts refl excess begun)
    c.run.ensures.evened

pub returns-clause-counted : goal.returns-clause-counted
returns-clause-counted c =
    rises_weaker _ _ _ _ (units_few c.args.net.now c.in_ok-units.units c.args.digits c.in_ok-units.ensures c.requires.fresh.of_a_function)
    c.run.ensures.counted

pub returns-clause-marked : goal.returns-clause-marked
returns-clause-marked c =
    on_ok_weaker c.run.result (λ marked. marked ∙ fresh_priced c.args.net.now c.args.state.now c.requires.fresh) c.run.ensures.marked

pub returns-clause-closed : goal.returns-clause-closed
returns-clause-closed c =
    IfOk-weaker c.run.result _ _
    (λ is_even gives odd. closed_in c.args.net.now c.in_ok-units.units _ _ c.in_ok-units.ensures (gives odd)) c.run.ensures.closed

pub run-requires-clause-room : goal.run-requires-clause-room
run-requires-clause-room c =
    let few = units_few c.args.net.now c.in_ok-units.units c.args.digits c.in_ok-units.ensures c.requires.fresh.of_a_function in
    let small = small_size c.args.net.now c.requires.fresh.of_a_function in
    let room = c.requires.room in
    omega (arith, few, small, room)
