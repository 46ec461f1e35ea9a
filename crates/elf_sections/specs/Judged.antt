-- What an accepted file keeps.
use Rattle.std.specs.Prelude.{◌≡◌, None}
use Rattle.refusal.specs.Place.{first_bad}
use Rattle.elf_model.specs.Tables.{program_headers}
use Rattle.elf_model.specs.Sections.{sections as sections_of}
use Rattle.elf_model.specs.Items.{items_of}
use Rattle.std.specs.List.{flat_map}
use Rattle.elf_sections.specs.Reach.{AreReaches}
use Rattle.elf_sections.specs.Tables.{IsSectionTable, AreNames}
use Rattle.elf_sections.specs.declared.elf.Elf.TheInside.{Inside}

-- The tables are those of the file, and no section is bad.
pub record IsJudged (elf : Inside) : Type 0 where
  pub sections : IsSectionTable elf.file.now elf.sections
  pub segments : elf.segments ≡ program_headers elf.file.now
  pub code : AreReaches (program_headers elf.file.now) elf.code.items
  pub names : AreNames elf.file.now elf.names
  pub good : first_bad (flat_map (items_of elf.file.now) (sections_of elf.file.now)) ≡ None
