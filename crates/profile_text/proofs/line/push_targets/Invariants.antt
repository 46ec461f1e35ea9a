use Rattle.std.proofs.Common.{◌≡◌, ◌++◌, map, take}
use Rattle.std.specs.List.{flat_map}
use Rattle.profile_model.specs.Text.{target_text}
use Rattle.profile_tree.specs.Told.{told_target}
use Rattle.profile_text.proofs.line.push_targets.Given as goal

abbrev pub invariant-loop-target : goal.invariant-loop-target
invariant-loop-target l =
    l.out.items ≡ l.initial.out.items ++ flat_map target_text (map (told_target l.names) (take l.target-index l.targets))
