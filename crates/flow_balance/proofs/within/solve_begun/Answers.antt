use Rattle.std.proofs.Common.{arith}
use Rattle.flow_balance.proofs.AnswerLemmas.{cut_found}
use Rattle.flow_balance.proofs.StateLemmas.{start_few, started}
use Rattle.flow_balance.proofs.within.solve_begun.Goals as goal

pub balance-requires-clause-state : goal.balance-requires-clause-state
balance-requires-clause-state c = started _ _ _ _ c.requires.start c.requires.prices

pub least-requires : goal.least-requires
least-requires c = (_, c.in_ok-balance.ensures.even c.in-Even.is)

pub returns-in_ok-nodes-in-Closed-clause-solved : goal.returns-in_ok-nodes-in-Closed-clause-solved
returns-in_ok-nodes-in-Closed-clause-solved c =
    cut_found _ _ _ _ _ _ (c.in_ok-balance.ensures.closed c.in-Closed.is) c.in_ok-nodes-in-Closed.ensures

pub returns-in-Spent-clause-none : goal.returns-in-Spent-clause-none
returns-in-Spent-clause-none c = λ none_found.
    let none = c.in_ok-balance.ensures.none_left c.in-Spent.is in
    let taken = c.in_ok-balance.ensures.spent.taken in
    let few = start_few _ _ _ c.requires.start in
    omega (arith, none, taken, few)
