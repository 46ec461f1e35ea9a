-- Lines whose text says what they say.
use Rattle.std.specs.Prelude.{◌≡◌, ◌<◌, ℕ, ◌^◌, true, List, Some}
use Rattle.std.specs.List.{AllByRecursion}
use Rattle.profile_model.specs.Names.{is_name}
use Rattle.profile_model.specs.Profile.{Line, function_line, body_line, call_line}
use Rattle.profile_model.specs.Reading.{line_of}
use Rattle.profile_model.specs.Text.{line_text}

-- A name, and a number of it that 64 bits hold.
abbrev pub IsNamed : List ℕ × ℕ → Type 0
IsNamed named = (is_name named.0 ≡ true) × (named.1 < 2 ^ 64)

-- A place below a function: its offset has 16 bits and its discriminator 32.
abbrev pub IsPlace : ℕ → ℕ → ℕ → Type 0
IsPlace depth offset disc = (0 < depth) × (offset < 2 ^ 16) × (disc < 2 ^ 32)

-- A line that can be told: its names are names, and its numbers have the bits in which they are read.
abbrev pub CanBeTold : Line → Type 0
CanBeTold (function_line name total head) = IsNamed (name, total) × (head < 2 ^ 64)
CanBeTold (body_line depth offset disc count targets) =
    IsPlace depth offset disc × (count < 2 ^ 64) × AllByRecursion IsNamed targets
CanBeTold (call_line depth offset disc name total) = IsPlace depth offset disc × IsNamed (name, total)

-- What is written of such a line is read as that line.
abbrev pub LineTextIsRead : Type 0
LineTextIsRead = (line : Line) → CanBeTold line → line_of (line_text line) ≡ Some line
