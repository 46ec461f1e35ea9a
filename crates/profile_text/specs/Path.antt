-- The lines that are open, as the steps that lead to the innermost.
use Rattle.std.specs.Prelude.{◌≡◌, Bool, true, false, List, [], ◌∷◌, map}
use Rattle.key_types.specs.declared.ids.NameId.{NameId}
use Rattle.key_types.specs.declared.key.Frame.{Frame}
use Rattle.key_types.specs.declared.key.Key.{Key}
use Rattle.profile_tree.specs.Steps.{NumberedStep, at_function, frame_step}
use Rattle.profile_text.specs.declared.said.Location.{Location}

-- A function and the calls in it, where one was begun.
abbrev pub steps_open : Bool → NameId → List Frame → List NumberedStep
steps_open false root frames = []
steps_open true root frames = at_function root.0 ∷ map frame_step frames

-- The steps that lead to the line of a key.
abbrev pub opening : Key → List NumberedStep
opening key = at_function key.root.0 ∷ map frame_step key.calls

-- A key is that of a line at this place below those that are open.
pub record IsKeyAt (path : List NumberedStep) (location : Location) (key : Key) : Type 0 where
  pub steps : opening key ≡ path
  pub offset : key.offset ≡ location.offset
  pub disc : key.disc ≡ location.disc
