use Rattle.std.proofs.Common.{◌≡◌, length}
use Rattle.flow_balance.specs.Excess.{surplus}
use Rattle.flow_balance.specs.State.{AreSpent, IsGiven}
use Rattle.flow_balance.proofs.balancing.balance_side.Given as goal

abbrev pub invariant-loop-excess : goal.invariant-loop-excess
invariant-loop-excess l = record {
  given : IsGiven l.net l.fn.counts l.fn.prices l.fn.excess l.counts l.prices l.excess;
  spent : AreSpent l.fn.work.left l.fn.excess l.work.left l.excess;
  marked : length l.work.search.marks ≡ length l.prices;
}

abbrev pub decreases-loop-excess : goal.decreases-loop-excess
decreases-loop-excess l = surplus l.excess
