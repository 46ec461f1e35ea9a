-- What is told of a program's addresses.
use Rattle.std.specs.Prelude.{ℕ, Bool, List, Option, None, Some}
use Rattle.profile_model.specs.Ways.{Way}
use Rattle.binary_model.specs.Addresses.{entered_at, factor_of_address, function_of_address}
use Rattle.binary_model.specs.Places.{Place, outside, nameless, no_line, at_way, place_of_address}

-- Of each address: its place, the number of the function that holds it, the name of the function that is entered
-- there, and how often its code was copied.
pub record Program : Type 0 where
  pub place : ℕ → Place
  pub function : ℕ → Option ℕ
  pub entered : ℕ → Option (List ℕ)
  pub factor : ℕ → ℕ

-- The program in a good binary, with bases in place of discriminators or not.
abbrev pub program_of : List ℕ → Bool → Program
program_of binary base = record {
  place = place_of_address binary base;
  function = function_of_address binary;
  entered = entered_at binary;
  factor = factor_of_address binary base;
}

-- The way of a place, where it is one.
abbrev pub way_of_place : Place → Option Way
way_of_place outside = None
way_of_place nameless = None
way_of_place no_line = None
way_of_place (at_way way) = Some way

-- The way of an address, where its place is one.
abbrev pub way_at : Program → ℕ → Option Way
way_at program address = way_of_place (program.place address)
