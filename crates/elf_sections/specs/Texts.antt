-- Where the last text of a string table ends.
use Rattle.std.specs.Prelude.{◌≡◌, ℕ, List, nat_le, Some, is_none}
use Rattle.std.specs.Option.{option_copied}
use Rattle.elf_model.specs.Sections.{text_at}
use Rattle.elf_sections.specs.declared.names.SectionNames.{SectionNames}

-- Texts stand at the indexes of a string table before this one, and at no others.
abbrev pub EndsAt : List ℕ → ℕ → Type 0
EndsAt table end = (at : ℕ) → is_none (text_at table at) ≡ nat_le end at

-- Where there is a table of names, its end is known.
abbrev pub KnowsEnd : SectionNames → Type 0
KnowsEnd names = (table : List ℕ) → option_copied names.table ≡ Some table → EndsAt table names.end
