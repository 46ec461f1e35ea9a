use Rattle.std.proofs.Common.{◌≡◌, ◌++◌, map, take}
use Rattle.profile_model.specs.Text.{text_of_lines}
use Rattle.profile_tree.specs.Told.{told}
use Rattle.profile_text.proofs.text.write.Given as goal

abbrev pub invariant-loop-line : goal.invariant-loop-line
invariant-loop-line l =
    l.out.items ≡ l.initial.out.items ++ text_of_lines (map (told l.names) (take l.line-index l.line-items))
