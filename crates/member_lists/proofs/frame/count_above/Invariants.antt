use Rattle.member_lists.proofs.StackLemmas.{AreNotAbove}
use Rattle.member_lists.proofs.frame.count_above.Given as goal

-- The frames behind the first `count` are of entries that one at the depth does not stand below.
abbrev pub invariant-loop-count : goal.invariant-loop-count
invariant-loop-count l = AreNotAbove l.depth l.frames l.count

abbrev pub decreases-loop-count : goal.decreases-loop-count
decreases-loop-count l = l.count
