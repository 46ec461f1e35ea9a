use Rattle.std.proofs.Common.{◌-◌, drop, length, take}
use Rattle.line_lift.proofs.OwnerLemmas.{OverSoFar}
use Rattle.line_lift.proofs.held.largest_over.Given as goal

abbrev pub invariant-loop-span : goal.invariant-loop-span
invariant-loop-span l = OverSoFar l.hi (take (length l.fn.spans - l.first) (drop l.first l.fn.spans)) l.span-index l.largest
