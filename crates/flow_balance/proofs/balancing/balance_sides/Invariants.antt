use Rattle.flow_balance.proofs.StateLemmas.{IsBalancing}
use Rattle.flow_balance.proofs.balancing.balance_sides.Given as goal

abbrev pub invariant-loop-side : goal.invariant-loop-side
invariant-loop-side l =
    IsBalancing l.net l.fn.counts l.fn.prices l.fn.excess l.fn.work.left l.counts l.prices l.excess l.work.left l.work.search.marks
    l.sides l.side
