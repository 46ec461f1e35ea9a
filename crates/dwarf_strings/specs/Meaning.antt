-- How the model sees the sections and bases of the code, and an answer of either.
use Rattle.std.specs.Prelude.{◌≡◌, ◌+◌, ◌≤◌, ℕ, List, length, drop, Option, Result, Ok, Err}
use Rattle.std.specs.Option.{option_map}
use Rattle.byte_view.specs.declared.part.Part.{Part}
use Rattle.byte_view.specs.Part.{bytes_of_part}
use Rattle.byte_view.specs.Cursor.{Cursor}
use Rattle.range_model.specs.Texts as model
use Rattle.dwarf_strings.specs.declared.unit.Bases.{Bases}
use Rattle.dwarf_strings.specs.declared.unit.Texts.{Texts}

-- The bytes of a section, where the file has it.
abbrev pub bytes_of : Option Part → Option (List ℕ)
bytes_of section = option_map bytes_of_part section

-- The sections, seen by their bytes.
abbrev pub sections_of : Texts → model.Sections
sections_of texts = record {
  str = bytes_of texts.str;
  line_str = bytes_of texts.line_str;
  str_offsets = bytes_of texts.str_offsets;
  addr = bytes_of texts.addr;
}

-- The bases, as they are.
abbrev pub bases_of : Bases → model.Bases
bases_of bases = record {
  wide = bases.wide;
  str_offsets = bases.str_offsets;
  addr = bases.addr;
  rnglists = bases.rnglists;
}

-- A cursor stands at an offset of a section, with the rest of the section before it.
pub record IsAt (section : Part) (offset : ℕ) (cur : Cursor) : Type 0 where
  pub inside : offset ≤ length (bytes_of_part section)
  pub at : cur.at ≡ section.at + offset
  pub left : cur.left ≡ drop offset (bytes_of_part section)

-- A call gives what is meant, or the cause why nothing is. `seen` is what clauses see of its value.
abbrev pub Gives : {X Y E : Type 0} → (X → Y) → Result X E → Result Y E → Type 0
Gives seen (Ok value) meant = meant ≡ Ok (seen value)
Gives seen (Err cause) meant = meant ≡ Err cause
