-- The sections that the code has found.
use Rattle.std.specs.Prelude.{◌≡◌, ℕ, ◌≤◌, ◌^◌, List, codes, Option, IfSome}
use Rattle.std.specs.Option.{option_map}
use Rattle.byte_view.specs.declared.part.Part.{Part}
use Rattle.placed_view.specs.Reader.{start_of}
use Rattle.dwarf_ranges.specs.Meaning.{range_sections_of}
use Rattle.binary_model.specs.Sections.{range_sections, section_at}
use Rattle.binary_places.specs.declared.sections.Sections.{Sections}

-- The section of a name, where the file has one. It has at most as many bytes as a binary.
pub record IsSection (file name : List ℕ) (found : Option Part) : Type 0 where
  pub stands : option_map start_of found ≡ section_at file name
  pub small : IfSome found (λ part. part.len ≤ 2 ^ 30)

-- All sections are those of the file.
pub record AreSections (file : List ℕ) (sections : Sections) : Type 0 where
  pub abbrev_is : IsSection file (codes ".debug_abbrev") sections.«abbrev»
  pub info_is : IsSection file (codes ".debug_info") sections.info
  pub line_is : IsSection file (codes ".debug_line") sections.line
  pub ranges_are : range_sections_of sections.ranges ≡ range_sections file
