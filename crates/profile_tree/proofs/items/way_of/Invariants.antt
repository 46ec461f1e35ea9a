use Rattle.std.proofs.Common.{◌≡◌, ◌∷◌, map, take}
use Rattle.profile_tree.specs.Items.{ranked}
use Rattle.profile_tree.specs.Steps.{at_function, frame_step}
use Rattle.profile_tree.proofs.items.way_of.Given as goal

abbrev pub invariant-loop-frame : goal.invariant-loop-frame
invariant-loop-frame l =
    l.way.items
    ≡ map (ranked l.ranks.total.now l.ranks.name.now) (at_function l.key.root.0 ∷ map frame_step (take l.frame-index l.key.calls))
