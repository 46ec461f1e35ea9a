use Rattle.profile_tree.specs.Items.{AreMarked}
use Rattle.profile_tree.specs.Standing.{counted_below}
use Rattle.profile_tree.proofs.standing.counted.Given as goal

abbrev pub invariant-loop-id : goal.invariant-loop-id
invariant-loop-id l = AreMarked l.names (counted_below l.keys l.counts l.id) l.marks.items
