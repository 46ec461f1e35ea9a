use Rattle.flow_phases.proofs.BeginLemmas.{all_done}
use Rattle.flow_phases.proofs.CountLemmas.{room_left}
use Rattle.flow_phases.proofs.phases.run_all.Goals as goal

pub run_next-requires-clause-room : goal.run_next-requires-clause-room
run_next-requires-clause-room c =
    room_left c.args.net.now c.loop-step.step c.args.digits _ _ c.requires.fresh.of_a_function c.requires.digits c.loop-step-test.true c.requires.room
    c.loop-step.invariant.counted

pub returns-clause-done : goal.returns-clause-done
returns-clause-done c = λ _.
    all_done c.args.net.now c.args.digits c.loop-step.step _ c.loop-step-test.false c.loop-step.invariant.come

pub run_next-requires-clause-of_a_function : goal.run_next-requires-clause-of_a_function
run_next-requires-clause-of_a_function c = c.requires.fresh.of_a_function
