use Rattle.flow_phases.proofs.RightLemmas.{IsDoubling}
use Rattle.flow_phases.proofs.refining.double.Given as goal

abbrev pub invariant-loop-count : goal.invariant-loop-count
invariant-loop-count l = IsDoubling l.fn.counts l.count-items l.count-index
