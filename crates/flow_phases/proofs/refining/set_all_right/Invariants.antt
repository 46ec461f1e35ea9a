use Rattle.flow_phases.specs.Refining.{AreSetRight}
use Rattle.flow_phases.proofs.refining.set_all_right.Given as goal

abbrev pub invariant-loop-place : goal.invariant-loop-place
invariant-loop-place l = AreSetRight l.net l.fn.counts l.prices l.counts l.excess l.place
