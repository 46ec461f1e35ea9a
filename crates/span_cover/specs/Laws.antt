-- What stretches show.
use Rattle.key_types.specs.Places.{IsStretches}
use Rattle.span_cover.specs.Stretches.{Stretched, function_at, number_at}

-- The numbers are those of stretches: two addresses have the same one exactly where one function holds all between.
abbrev pub NumbersAreStretches : Type 0
NumbersAreStretches = (stretches : Stretched) → IsStretches (function_at stretches) (number_at stretches)
