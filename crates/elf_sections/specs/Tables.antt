-- The tables that the code has found in a file.
use Rattle.std.specs.Prelude.{◌≡◌, ◌==◌, if◌then◌else◌, List, ℕ, Option, None, slice_get}
use Rattle.std.specs.List.{flat_map}
use Rattle.refusal.specs.declared.place.Place.{Place}
use Rattle.std.specs.Option.{option_copied}
use Rattle.elf_model.specs.Tables.{SectionHeader, section_headers}
use Rattle.elf_model.specs.Sections.{used, name_section, name_table}
use Rattle.elf_model.specs.Items.{items_of}
use Rattle.elf_sections.specs.declared.section_table.SectionTable.{SectionTable}
use Rattle.elf_sections.specs.declared.names.SectionNames.{SectionNames}
use Rattle.elf_sections.specs.Texts.{KnowsEnd}

-- The header that a table names, where it names one.
abbrev pub named : SectionTable → Option SectionHeader
named table = if table.name_index == 0 then None else slice_get table.entries table.name_index

-- The section header table of a file, and in it the header of the names.
pub record IsSectionTable (file : List ℕ) (table : SectionTable) : Type 0 where
  pub entries : table.entries ≡ section_headers file
  pub names : named table ≡ name_section file

-- The names of a file's sections, and where the last of them ends.
pub record AreNames (file : List ℕ) (names : SectionNames) : Type 0 where
  pub table : option_copied names.table ≡ name_table file
  pub end : KnowsEnd names

-- The items of the sections that some headers describe.
abbrev pub judged : List ℕ → List SectionHeader → List (Option Place)
judged file headers = flat_map (items_of file) (used headers)
