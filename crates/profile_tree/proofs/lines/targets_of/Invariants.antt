use Rattle.std.proofs.Common.{◌≡◌, map, take}
use Rattle.profile_tree.specs.Rows.{target_of}
use Rattle.profile_tree.proofs.lines.targets_of.Given as goal

abbrev pub invariant-loop-target : goal.invariant-loop-target
invariant-loop-target l = l.targets.items ≡ map (target_of l.ids) (take l.target-index l.target-items)
