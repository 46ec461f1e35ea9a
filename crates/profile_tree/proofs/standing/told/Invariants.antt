use Rattle.std.proofs.Common.{take}
use Rattle.profile_tree.specs.Items.{AreMarked}
use Rattle.profile_tree.specs.Standing.{is_told}
use Rattle.profile_tree.proofs.standing.told.Given as goal

abbrev pub invariant-loop-call : goal.invariant-loop-call
invariant-loop-call l = AreMarked l.names (is_told l.keys l.counts (take l.call-index l.calls)) l.marks.items
