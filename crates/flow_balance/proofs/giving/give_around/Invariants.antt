use Rattle.flow_balance.specs.State.{AreSpent, IsGiven}
use Rattle.flow_balance.proofs.giving.give_around.Given as goal

abbrev pub invariant-loop-place : goal.invariant-loop-place
invariant-loop-place l =
    IsGiven l.net l.fn.counts l.prices l.fn.excess l.counts l.prices l.excess × AreSpent l.fn.left l.fn.excess l.left l.excess
