-- The lines of a tree, as the lines of a profile that they tell.
use Rattle.std.specs.Prelude.{◌<◌, ℕ, List, map, length}
use Rattle.std.specs.List.{All}
use Rattle.key_types.specs.Numbers.{name_of}
use Rattle.profile_model.specs.Profile.{Line as told_line, function_line, body_line, call_line}
use Rattle.profile_tree.specs.declared.line.Line.{Line}
use Rattle.profile_tree.specs.declared.line.Line.TheVariants.{Function, Body, Call}
use Rattle.profile_tree.specs.declared.line.Target.{Target}

-- A target, with its name.
abbrev pub told_target : List (List ℕ) → Target → List ℕ × ℕ
told_target names target = (name_of names target.name, target.times)

-- A line, with the names of its numbers.
abbrev pub told : List (List ℕ) → Line → told_line
told names (Function name total head) = function_line (name_of names name) total head
told names (Body depth offset disc count targets) =
    body_line depth offset disc count (map (told_target names) targets)
told names (Call depth offset disc name total) = call_line depth offset disc (name_of names name) total

-- All numbers in a line were given.
abbrev pub IsOf : List (List ℕ) → Line → Type 0
IsOf names (Function name total head) = name.0 < length names
IsOf names (Body depth offset disc count targets) = All (λ target. target.name.0 < length names) targets
IsOf names (Call depth offset disc name total) = name.0 < length names
