use Rattle.std.proofs.Common.{take}
use Rattle.profile_tree.specs.Items.{AreMarked}
use Rattle.profile_tree.specs.Standing.{stands}
use Rattle.profile_tree.proofs.standing.standing.Given as goal

abbrev pub invariant-loop-head : goal.invariant-loop-head
invariant-loop-head l = AreMarked l.names (stands l.keys l.counts l.calls (take l.head-index l.heads)) l.marks.items
