use Rattle.context_map.proofs.AskLemmas.{AsksSoFar}
use Rattle.context_map.proofs.asked.mark_all.Given as goal

abbrev pub invariant-loop-span : goal.invariant-loop-span
invariant-loop-span l = AsksSoFar l.initial.marks l.spans l.span-index l.marks
