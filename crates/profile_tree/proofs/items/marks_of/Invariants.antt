use Rattle.std.proofs.Common.{take}
use Rattle.profile_tree.specs.Items.{AreMarked, is_marked}
use Rattle.profile_tree.proofs.items.marks_of.Given as goal

abbrev pub invariant-loop-key : goal.invariant-loop-key
invariant-loop-key l = AreMarked l.keys (is_marked l.calls (take l.key-index l.besides)) l.marks.items
