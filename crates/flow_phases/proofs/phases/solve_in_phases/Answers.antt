use Rattle.flow_balance.proofs.AnswerLemmas.{least_found}
use Rattle.flow_phases.proofs.BeginLemmas.{closed_is_cut}
use Rattle.flow_phases.proofs.phases.solve_in_phases.Goals as goal

pub returns-then-not-branch-clause-solved : goal.returns-then-not-branch-clause-solved
returns-then-not-branch-clause-solved c =
    closed_is_cut c.args.net.now _ _ c.in_ok-state.ensures.of_a_function (c.in_ok-run_all.ensures.closed c.if-not-branch.true) c.in_ok-nodes.ensures

pub returns-clause-solved : goal.returns-clause-solved
returns-clause-solved c =
    let done = c.in_ok-run_all.ensures.done c.if-not-branch.false in
    least_found _ _ _ _ _ _ done (rw c.deref.ensures.value at c.in_ok-flow.ensures) (rw c.deref-2.ensures.value at c.in_ok-told.ensures)
