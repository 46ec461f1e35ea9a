use Rattle.flow_balance.proofs.PriceLemmas.{AreMoving, ArePut}
use Rattle.flow_balance.proofs.prices.level.Given as goal

abbrev pub invariant-loop-side : goal.invariant-loop-side
invariant-loop-side l = AreMoving l.fn.prices l.fn.marks l.limit l.prices l.side-index × ArePut l.fn.marks l.limit l.marks l.side-index
