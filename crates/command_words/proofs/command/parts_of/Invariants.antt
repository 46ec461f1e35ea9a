use Rattle.std.proofs.Common.{length}
use Rattle.command_words.proofs.PartLemmas.{PartsSoFar}
use Rattle.command_words.proofs.command.parts_of.Given as goal

abbrev pub invariant-loop-weight : goal.invariant-loop-weight
invariant-loop-weight l = PartsSoFar l.words l.left l.parts.items

abbrev pub decreases-loop-weight : goal.decreases-loop-weight
decreases-loop-weight l = length l.left
