use Rattle.context_map.proofs.ParentLemmas.{ParentsSoFar}
use Rattle.context_map.proofs.parent.parents.Given as goal

abbrev pub invariant-loop-number : goal.invariant-loop-number
invariant-loop-number l = ParentsSoFar l.members l.number l.path.items l.parents.items
