-- Ways by the numbers of names.
use Rattle.std.specs.Prelude.{ℕ, List, [], ◌∷◌, ◌++◌, map}
use Rattle.std.specs.Option.{unwrap_or}
use Rattle.std.specs.Prelude.{slice_get}
use Rattle.key_types.specs.declared.key.Frame.{Frame}
use Rattle.key_types.specs.declared.key.Key.{Key}
use Rattle.profile_model.specs.Ways.{Step, to_function, to_body, to_call}
use Rattle.std.specs.Prelude.{Option, None, Some}

-- A step of a way, with the number of its name.
pub data NumberedStep : Type 0 where
  at_function : (name : ℕ) → NumberedStep
  at_line : (offset disc : ℕ) → NumberedStep
  at_call : (offset disc name : ℕ) → NumberedStep

-- The step of an inlined call.
abbrev pub frame_step : Frame → NumberedStep
frame_step frame = at_call frame.offset frame.disc frame.name.0

-- The way of a key: its function, its inlined calls, its line.
abbrev pub steps_of : Key → List NumberedStep
steps_of key = at_function key.root.0 ∷ (map frame_step key.calls ++ at_line key.offset key.disc ∷ [])

-- The way of the key of a number; a number that was not given has no way.
abbrev pub steps_of_given : Option Key → List NumberedStep
steps_of_given None = []
steps_of_given (Some key) = steps_of key

abbrev pub steps_at : List Key → ℕ → List NumberedStep
steps_at keys id = steps_of_given (slice_get keys id)

-- The name of a number; a number that was not given has the empty name.
abbrev pub name_at : List (List ℕ) → ℕ → List ℕ
name_at names id = unwrap_or (slice_get names id) []

-- A step with its name.
abbrev pub named : List (List ℕ) → NumberedStep → Step
named names (at_function name) = to_function (name_at names name)
named names (at_line offset disc) = to_body offset disc
named names (at_call offset disc name) = to_call offset disc (name_at names name)
