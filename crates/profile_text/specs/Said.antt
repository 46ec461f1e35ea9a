-- What the code has read of a line.
use Rattle.std.specs.Prelude.{ℕ, List, map}
use Rattle.profile_model.specs.Profile.{Line, function_line, body_line, call_line}
use Rattle.profile_text.specs.declared.said.Location.{Location}
use Rattle.profile_text.specs.declared.said.Named.{Named}
use Rattle.profile_text.specs.declared.said.ProfileLine.{ProfileLine}
use Rattle.profile_text.specs.declared.said.ProfileLine.TheVariants.{Function, Body, Call}

-- A name and its number.
abbrev pub pair_of : Named → List ℕ × ℕ
pair_of named = (named.name.now, named.times)

-- An offset and a discriminator.
abbrev pub place_of : Location → ℕ × ℕ
place_of location = (location.offset, location.disc)

-- The line that it says.
abbrev pub meaning_of : ProfileLine → Line
meaning_of (Function name total head) = function_line name.now total head
meaning_of (Body depth location count targets) =
    body_line depth location.offset location.disc count (map pair_of targets.items)
meaning_of (Call depth location callee) =
    call_line depth location.offset location.disc callee.name.now callee.times
