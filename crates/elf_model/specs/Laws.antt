-- What follows from the definitions.
use Rattle.std.specs.Prelude.{◌≡◌, ℕ, ◌+◌, ◌%◌, ◌<◌, ◌≤◌, ◌↔◌, List, length, Some, None}
use Rattle.std.specs.List.{Any}
use Rattle.refusal.specs.Place.{first_bad}
use Rattle.elf_model.specs.Tables.{SectionHeader, ProgramHeader, program_headers}
use Rattle.elf_model.specs.Sections.{start, file_size, section}
use Rattle.elf_model.specs.Segments.{IsLive}
use Rattle.elf_model.specs.Items.{items}

-- A loaded executable segment holds a range of addresses whole.
pub record HoldsCode (lo hi : ℕ) (segment : ProgramHeader) : Type 0 where
  pub loaded : segment.p_type ≡ 1
  pub executable : segment.p_flags % 2 ≡ 1
  pub low : segment.p_vaddr ≤ lo
  pub high : hi ≤ segment.p_vaddr + segment.p_memsz

-- A range is live exactly where it does not begin at 0, is not empty, and one segment holds it as code.
abbrev pub LiveRangesAreCode : Type 0
LiveRangesAreCode =
    (file : List ℕ) (lo hi : ℕ)
    → IsLive file lo hi ↔ ((0 < lo) × (lo < hi) × Any (HoldsCode lo hi) (program_headers file))

-- The bytes of a section are within a file that has no bad place.
abbrev pub SectionsAreWithin : Type 0
SectionsAreWithin =
    (file name : List ℕ) (header : SectionHeader) → first_bad (items file) ≡ None → section file name ≡ Some header
    → start file header + file_size header ≤ length file
