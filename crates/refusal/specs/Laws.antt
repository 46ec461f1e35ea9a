-- What follows from the definitions.
use Rattle.std.specs.Prelude.{◌≡◌, List, ◌++◌, Option}
use Rattle.std.specs.Option.{option_or}
use Rattle.refusal.specs.declared.place.Place.{Place}
use Rattle.refusal.specs.Place.{first_bad}

-- Of two lists of items, one behind the other, the first list that has a bad place has the first one.
abbrev pub PlacesComeInOrder : Type 0
PlacesComeInOrder =
    (items more : List (Option Place)) → first_bad (items ++ more) ≡ option_or (first_bad items) (first_bad more)
