-- The name and the start line of an entry, which the attributes on its way say.
use Rattle.std.specs.Prelude.{ℕ, ◌==◌, if◌then◌else◌, List, [], ◌∷◌, map, flat_map, find, Option, None, Some, Result, Ok, Err}
use Rattle.std.specs.Option.{option_map_or, option_or}
use Rattle.refusal.specs.declared.place.Place.{Place}
use Rattle.value_model.specs.Value.{Value, const}
use Rattle.range_model.specs.Texts.{Sections, text_of}
use Rattle.unit_model.specs.Constants.{DW_AT_MIPS_linkage_name, DW_AT_decl_line, DW_AT_linkage_name, DW_AT_name}
use Rattle.unit_model.specs.Values.{Found}
use Rattle.unit_model.specs.Entries.{Entry}
use Rattle.unit_model.specs.Units.{Units}
pub use Rattle.profile_model.specs.Names.{begins_no_name, is_name, parts_names}
use Rattle.tree_model.specs.Bases.{at_value, bases_of_unit}
use Rattle.tree_model.specs.Way.{Info, way}

-- An attribute on a way, with the unit of the entry that has it.
pub record Held : Type 0 where
  pub unit : ℕ
  pub found : Found

-- The attributes on a way.
abbrev pub held_by : Entry → List Held
held_by entry = map (λ found. record { unit = entry.unit; found = found }) entry.found

abbrev pub attributes_on : List Entry → List Held
attributes_on way = flat_map held_by way

-- The first attribute of a name on a way.
abbrev pub first_on : ℕ → List Entry → Option Held
first_on name way = find (λ held. held.found.name == name) (attributes_on way)

-- The attribute that names an entry: of the first of these names that there is on its way, the first one.
abbrev pub naming : List Entry → Option Held
naming way =
    option_or (first_on DW_AT_linkage_name way)
    (option_or (first_on DW_AT_MIPS_linkage_name way) (first_on DW_AT_name way))

-- A text, where it is a name.
abbrev pub as_name : Result (List ℕ) Place → Result (Option (List ℕ)) Place
as_name (Ok text) = Ok (if is_name text then Some text else None)
as_name (Err place) = Err place

-- The name that an attribute says, with the bases of the unit in which it stands.
abbrev pub name_said : Sections → Units → Option Held → Result (Option (List ℕ)) Place
name_said sections units None = Ok None
name_said sections units (Some held) =
    as_name (at_value held.found.at (text_of sections (bases_of_unit units held.unit) held.found.value))

-- The number that a value is.
abbrev pub number_of : Value → ℕ
number_of (const n) = n
number_of other = 0

-- The start line of an entry: the first DW_AT_decl_line on its way, else 0.
abbrev pub line_on : List Entry → ℕ
line_on way = option_map_or (λ held. number_of held.found.value) (first_on DW_AT_decl_line way) 0

-- What names an entry in a profile: its name, where it has one, and the line that its lines are counted from.
pub record Origin : Type 0 where
  pub name : Option (List ℕ)
  pub line : ℕ

-- A name with a line.
abbrev pub with_line : ℕ → Result (Option (List ℕ)) Place → Result Origin Place
with_line line (Ok name) = Ok (record { name = name; line = line })
with_line line (Err place) = Err place

-- What a way says, or the place at which the way or its name is refused.
abbrev pub said_on : Sections → Units → Result (List Entry) Place → Result Origin Place
said_on sections units (Ok way) = with_line (line_on way) (name_said sections units (naming way))
said_on sections units (Err place) = Err place

-- The name and the start line of an entry.
unfoldable pub origin : Sections → Info → Entry → Result Origin Place
origin sections info entry = said_on sections info.units (way info entry)
