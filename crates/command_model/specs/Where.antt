-- What `where` writes.
use Rattle.std.specs.Prelude.{ℕ, List, ◌++◌, codes}
use Rattle.std.specs.List.{flat_map}
use Rattle.profile_model.specs.Text.{location_text}
use Rattle.profile_model.specs.Ways.{Kind, Step, Way, function, body, call}
use Rattle.binary_model.specs.Places.{Place, outside, nameless, no_line, at_way}

-- A step of a way: a function by its name, a body line by its location, and a call by its location and its name.
abbrev pub step_text : Kind → Step → List ℕ
step_text function step = step.name
step_text body step = codes " " ++ location_text step.offset step.disc
step_text call step = codes " " ++ (location_text step.offset step.disc ++ (codes " " ++ step.name))

-- A way, step by step.
abbrev pub way_text : Way → List ℕ
way_text way = flat_map (λ step. step_text step.kind step) way

-- A place.
abbrev pub place_text : Place → List ℕ
place_text outside = codes "outside"
place_text nameless = codes "nameless"
place_text no_line = codes "noline"
place_text (at_way way) = way_text way

-- The line of a place.
abbrev pub where_text : Place → List ℕ
where_text place = place_text place ++ codes "\n"
