use Rattle.context_map.proofs.NameLemmas.{ClimbedSoFar}
use Rattle.context_map.proofs.context.context_of.Given as goal

abbrev pub invariant-loop-function : goal.invariant-loop-function
invariant-loop-function l = ClimbedSoFar l.members l.base l.number l.function l.calls.items l.all_named

abbrev pub decreases-loop-function : goal.decreases-loop-function
decreases-loop-function l = l.function
