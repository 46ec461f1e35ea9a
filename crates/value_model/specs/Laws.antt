-- What holds of the values that bytes spell.
use Rattle.std.specs.Prelude.{◌≡◌, ℕ, ℤ, Bool, List, ◌++◌, Ok}
use Rattle.byte_view.specs.Laws.{BeginsWith, IsPrefixFree}
use Rattle.value_model.specs.Value.{Value}
use Rattle.value_model.specs.Reading.{value_at}
use Rattle.value_model.specs.Spelling.{Spells}

-- What spells a value is read as this value, whatever follows it.
abbrev pub SpelledIsRead : Type 0
SpelledIsRead =
    (form : ℕ) (implicit : ℤ) (wide : Bool) (bytes rest : List ℕ) (value : Value)
    → Spells implicit wide form bytes value → value_at form implicit wide (bytes ++ rest) ≡ Ok (value, rest)

-- What is read as a value begins with a spelling of this value.
abbrev pub ReadIsSpelled : Type 0
ReadIsSpelled =
    (form : ℕ) (implicit : ℤ) (wide : Bool) (bytes rest : List ℕ) (value : Value)
    → value_at form implicit wide bytes ≡ Ok (value, rest) → BeginsWith (Spells implicit wide form) bytes value rest

-- No spelling of a form is a proper prefix of another one of this form, and one spelling spells one value.
abbrev pub NoSpellingBeginsAnother : Type 0
NoSpellingBeginsAnother =
    (form : ℕ) (implicit : ℤ) (wide : Bool) → IsPrefixFree (Spells implicit wide form)
