use Rattle.range_counts.proofs.SweepLemmas.{StepsSoFar}
use Rattle.range_counts.proofs.changes.steps_of.Given as goal

abbrev pub invariant-loop-i : goal.invariant-loop-i
invariant-loop-i l = StepsSoFar l.changes l.i l.begun l.ended l.steps.items
