use Rattle.flow_balance.specs.Excess.{surplus}
use Rattle.flow_balance.proofs.StateLemmas.{IsTaking}
use Rattle.flow_balance.proofs.augmenting.augment.Given as goal

abbrev pub invariant-loop-found : goal.invariant-loop-found
invariant-loop-found l =
    IsTaking l.net l.fn.counts l.fn.prices l.fn.excess l.fn.work.left l.counts l.prices l.excess l.work.left l.source l.work.search
    l.found

abbrev pub decreases-loop-found : goal.decreases-loop-found
decreases-loop-found l = surplus l.excess
