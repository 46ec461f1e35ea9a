use Rattle.std.proofs.Common.{ap, arith, length, sym}
use Rattle.std.proofs.lemmas.Result.{IfOk-weaker, on_ok_weaker}
use Rattle.flow_phases.proofs.BeginLemmas.{evened_in, written}
use Rattle.flow_phases.proofs.state.State.run.Goals as goal

pub run_phase-requires-clause-state : goal.run_phase-requires-clause-state
run_phase-requires-clause-state c =
    rw (c.deref_mut.ensures.value, c.deref_mut-2.ensures.value, c.deref_mut-3.ensures.value) c.requires.ready.state

pub run_phase-requires-clause-few : goal.run_phase-requires-clause-few
run_phase-requires-clause-few c = rw c.deref_mut-3.ensures.value c.requires.ready.few

pub run_phase-requires-clause-marked : goal.run_phase-requires-clause-marked
run_phase-requires-clause-marked c = rw c.deref_mut-2.ensures.value c.requires.ready.marked

pub returns-clause-evened : goal.returns-clause-evened
returns-clause-evened c =
    let counts = written c.args.self.now.counts _ _ c.run_phase.auto.counts c.deref_mut.ensures.len in
    let prices = written c.args.self.now.prices _ _ c.run_phase.auto.prices c.deref_mut-2.ensures.len in
    let excess = written c.args.self.now.excess _ _ c.run_phase.auto.excess c.deref_mut-3.ensures.len in
    IfOk-weaker c.run_phase.result _ _
    (λ is_even gives even. evened_in c.args.units.now c.args.self.now _ _ _ _ _ _ _
    (sym c.deref_mut.ensures.value) (sym c.deref_mut-2.ensures.value) (sym c.deref_mut-3.ensures.value)
    counts prices excess (gives even))
    c.run_phase.ensures.evened

pub returns-clause-closed : goal.returns-clause-closed
returns-clause-closed c =
    let counts = written c.args.self.now.counts _ _ c.run_phase.auto.counts c.deref_mut.ensures.len in
    let prices = written c.args.self.now.prices _ _ c.run_phase.auto.prices c.deref_mut-2.ensures.len in
    let excess = written c.args.self.now.excess _ _ c.run_phase.auto.excess c.deref_mut-3.ensures.len in
    IfOk-weaker c.run_phase.result _ _
    (λ is_even gives odd. rw (counts, prices, excess) (gives odd))
    c.run_phase.ensures.closed

pub returns-clause-marked : goal.returns-clause-marked
returns-clause-marked c =
    let same = c.run_phase.auto.prices in
    let was = ap length c.deref_mut-2.ensures.value in
    on_ok_weaker c.run_phase.result (λ marked. omega (arith, marked, same, was)) c.run_phase.ensures.marked
