use Rattle.std.proofs.Common.{take}
use Rattle.profile_tree.specs.Sums.{AreEach, entries_of}
use Rattle.profile_tree.proofs.sums.heads_of.Given as goal

abbrev pub invariant-loop-head : goal.invariant-loop-head
invariant-loop-head l = AreEach l.names (entries_of (take l.head-index l.heads)) l.sums.items
