-- What a look-up of a section finds.
use Rattle.std.specs.Prelude.{◌≡◌, ℕ, List, Option, None, Some}
use Rattle.byte_view.specs.declared.Part.{Part}
use Rattle.byte_view.specs.Part.{bytes_of_part}
use Rattle.elf_model.specs.Tables.{SectionHeader}
use Rattle.elf_model.specs.Sections.{start, file_size, bytes_of}

-- A section's piece of the file: where it stands, and the section's bytes.
pub record IsPiece (file : List ℕ) (header : SectionHeader) (part : Part) : Type 0 where
  pub of_file : part.file.now ≡ file
  pub at : part.at ≡ start file header
  pub len : part.len ≡ file_size header
  pub bytes : bytes_of_part part ≡ bytes_of file header

-- Nothing is found where there is no section, and else its piece.
abbrev pub Finds : List ℕ → Option SectionHeader → Option Part → Type 0
Finds file None found = found ≡ None
Finds file (Some header) None = ⊥
Finds file (Some header) (Some part) = IsPiece file header part
