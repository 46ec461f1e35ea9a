-- Functions and the calls inlined into them.
use Rattle.std.specs.Prelude.{ℕ, ◌%◌, ◌^◌, Bool, ◌==◌, List, Option}
use Rattle.std.specs.Option.{option_map_or}
use Rattle.unit_model.specs.Constants.{DW_AT_GNU_discriminator, DW_AT_call_line, DW_TAG_inlined_subroutine, DW_TAG_subprogram}
use Rattle.unit_model.specs.Entries.{Entry}
use Rattle.tree_model.specs.Bases.{attribute}
use Rattle.tree_model.specs.Origin.{Origin, number_of}

-- An entry is of a function, or of an inlined call.
abbrev pub is_function : Entry → Bool
is_function entry = entry.tag == DW_TAG_subprogram

abbrev pub is_call : Entry → Bool
is_call entry = entry.tag == DW_TAG_inlined_subroutine

-- A function, or a call inlined into it, with pieces: how many calls deep it stands, the number of its unit, its
-- name and start line, the line and the discriminator of the call, which are 0 for a function, and its
-- pieces.
pub record Told : Type 0 where
  pub depth : ℕ
  pub unit : ℕ
  pub name : Option (List ℕ)
  pub start : ℕ
  pub line : ℕ
  pub disc : ℕ
  pub pieces : List (ℕ × ℕ)

-- The number that an attribute of an entry is, and 0 without the attribute.
abbrev pub number_in : ℕ → Entry → ℕ
number_in name entry = option_map_or (λ found. number_of found.value) (attribute name entry.found) 0

-- A function with pieces.
abbrev pub function_told : Entry → List (ℕ × ℕ) → Origin → Told
function_told entry pieces origin = record {
  depth = 0;
  unit = entry.unit;
  name = origin.name;
  start = origin.line;
  line = 0;
  disc = 0;
  pieces = pieces;
}

-- A call with pieces. Its line and its discriminator are its own.
abbrev pub call_told : ℕ → Entry → List (ℕ × ℕ) → Origin → Told
call_told depth entry pieces origin = record {
  depth = depth;
  unit = entry.unit;
  name = origin.name;
  start = origin.line;
  line = number_in DW_AT_call_line entry;
  disc = number_in DW_AT_GNU_discriminator entry % 2 ^ 32;
  pieces = pieces;
}
