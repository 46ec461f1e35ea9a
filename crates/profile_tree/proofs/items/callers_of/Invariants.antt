use Rattle.std.proofs.Common.{take}
use Rattle.profile_tree.specs.Items.{AreMarked, is_caller}
use Rattle.profile_tree.proofs.items.callers_of.Given as goal

abbrev pub invariant-loop-call : goal.invariant-loop-call
invariant-loop-call l = AreMarked l.keys (is_caller (take l.call-index l.calls)) l.callers.items
