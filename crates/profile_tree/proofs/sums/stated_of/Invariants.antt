use Rattle.std.proofs.Common.{take}
use Rattle.profile_tree.specs.Sums.{AreEach, count_stated}
use Rattle.profile_tree.proofs.sums.stated_of.Given as goal

abbrev pub invariant-loop-count : goal.invariant-loop-count
invariant-loop-count l = AreEach l.keys (count_stated (take l.count-index l.counts)) l.stated.items
