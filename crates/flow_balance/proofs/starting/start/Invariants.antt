use Rattle.flow_balance.proofs.StartLemmas.{IsStarting}
use Rattle.flow_balance.proofs.starting.start.Given as goal

abbrev pub invariant-loop-place : goal.invariant-loop-place
invariant-loop-place l = IsStarting l.net l.counts l.excess l.place
