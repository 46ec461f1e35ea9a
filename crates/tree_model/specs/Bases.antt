-- What the root of a unit says for the unit's entries: its base address, and what their indexes count from.
use Rattle.std.specs.Prelude.{ℕ, Bool, false, ◌==◌, ◌||◌, if◌then◌else◌, List, find, slice_get, Option, None, Some, Result, Ok, Err}
use Rattle.std.specs.Option.{option_and_then, option_map_or}
use Rattle.refusal.specs.declared.kind.Kind.{Kind}
use Rattle.refusal.specs.declared.place.Place.{Place}
use Rattle.refusal.specs.Place.{in_binary}
use Rattle.value_model.specs.Value.{Value, const, offset}
use Rattle.range_model.specs.Texts.{Bases, Sections, address_of}
use Rattle.unit_model.specs.Constants.{DW_AT_addr_base, DW_AT_low_pc, DW_AT_rnglists_base, DW_AT_str_offsets_base, DW_TAG_compile_unit, DW_TAG_partial_unit}
use Rattle.unit_model.specs.Values.{Found}
use Rattle.unit_model.specs.Entries.{Entry}
use Rattle.unit_model.specs.Units as model

-- The attribute of a name among those of an entry.
abbrev pub attribute : ℕ → List Found → Option Found
attribute name found = find (λ other. other.name == name) found

-- The first entry of a unit, if the unit has one.
abbrev pub first_entry : List Entry → model.Unit → Option Entry
first_entry entries unit = if unit.count == 0 then None else slice_get entries unit.first

-- An entry has the tag of a root (DWARF 5, section 3.1.1).
abbrev pub is_root : Entry → Bool
is_root entry = entry.tag == DW_TAG_compile_unit || entry.tag == DW_TAG_partial_unit

-- An entry, where it is a root. Another one says nothing of its unit.
abbrev pub if_root : Entry → Option Entry
if_root entry = if is_root entry then Some entry else None

-- The root of the unit of a number: the unit's first entry, where that is a root.
unfoldable pub root_of : model.Units → ℕ → Option Entry
root_of units number =
    option_and_then if_root (option_and_then (first_entry units.entries) (slice_get units.units number))

-- The attribute of a name of a unit's root.
abbrev pub root_attribute : model.Units → ℕ → ℕ → Option Found
root_attribute units number name = option_and_then (λ root. attribute name root.found) (root_of units number)

-- The unit of a number is in 64-bit DWARF.
abbrev pub is_wide : model.Units → ℕ → Bool
is_wide units number = option_map_or (λ unit. unit.wide) (slice_get units.units number) false

-- The place in a section that the value of a base means. Units with a base of another class are refused.
-- Why: `DW_AT_stmt_list` of class constant is an offset, as the bases are.
abbrev pub section_place : Value → Option ℕ
section_place (offset n) = Some n
section_place (const n) = Some n
section_place other = None

-- The place that an attribute of a unit's root means, if it is there.
abbrev pub base_in : model.Units → ℕ → ℕ → Option ℕ
base_in units number name = option_and_then (λ base. section_place base.value) (root_attribute units number name)

-- What the indexes of a unit count from, by its root. Where the root has no such attribute there is no base.
unfoldable pub bases_of_unit : model.Units → ℕ → Bases
bases_of_unit units number = record {
  wide = is_wide units number;
  str_offsets = base_in units number DW_AT_str_offsets_base;
  addr = base_in units number DW_AT_addr_base;
  rnglists = base_in units number DW_AT_rnglists_base;
}

-- What a value at a place of the binary means, or that place with the cause why it means nothing.
abbrev pub at_value : {X : Type 0} → ℕ → Result X Kind → Result X Place
at_value at (Ok x) = Ok x
at_value at (Err kind) = Err (in_binary at kind)

-- The address that an attribute means, or its value's place.
abbrev pub address_at : Sections → Bases → Found → Result ℕ Place
address_at sections bases found = at_value found.at (address_of sections bases found.value)

-- The address that an attribute means, and 0 without an attribute.
abbrev pub address_or_0 : Sections → Bases → Option Found → Result ℕ Place
address_or_0 sections bases None = Ok 0
address_or_0 sections bases (Some found) = address_at sections bases found

-- The base address of a unit: DW_AT_low_pc of its root, and 0 without it (DWARF 5, section 3.1.1).
unfoldable pub base_address : Sections → model.Units → ℕ → Result ℕ Place
base_address sections units number =
    address_or_0 sections (bases_of_unit units number) (root_attribute units number DW_AT_low_pc)
