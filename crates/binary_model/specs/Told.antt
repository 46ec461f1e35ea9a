-- How answers that number keys tell places.
use Rattle.std.specs.Prelude.{◌≡◌}
use Rattle.key_types.specs.declared.ids.KeyId.{KeyId}
use Rattle.key_types.specs.declared.places.Where.{Where}
use Rattle.key_types.specs.declared.places.Where.TheVariants.{Outside, Nameless, NoLine, At}
use Rattle.profile_model.specs.Ways.{Way}
use Rattle.binary_model.specs.Places.{Place, outside, nameless, no_line, at_way}

-- An answer tells a place: the same lack of a way, or the number of a key that stands for the way.
abbrev pub TellsBy : (Way → KeyId → Type 0) → Place → Where → Type 0
TellsBy StandsFor outside answer = answer ≡ Outside
TellsBy StandsFor nameless answer = answer ≡ Nameless
TellsBy StandsFor no_line answer = answer ≡ NoLine
TellsBy StandsFor (at_way way) answer = (id : KeyId) × (answer ≡ At id) × StandsFor way id
