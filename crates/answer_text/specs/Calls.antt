-- What is written of an inlined call.
use Rattle.std.specs.Prelude.{ℕ, List, ◌++◌, codes}
use Rattle.key_types.specs.declared.key.Frame.{Frame}
use Rattle.profile_model.specs.Text.{location_text}
use Rattle.key_types.specs.Numbers.{name_of}

-- A call, by its location and the name of the function that it calls.
abbrev pub call_text : List (List ℕ) → Frame → List ℕ
call_text names call =
    codes " " ++ (location_text call.offset call.disc ++ (codes " " ++ name_of names call.name))
