-- The two header tables, each as the list of its entries.
use Rattle.std.specs.Prelude.{ℕ, zero, suc, ◌+◌, Bool, not, ◌==◌, if◌then◌else◌, List, [], ◌∷◌}
use Rattle.elf_model.specs.Fields.{number_at, e_phoff, e_phnum, e_shoff, e_shnum, e_shstrndx}

-- gABI, "Sections", Elf64_Shdr, with the offset in the file at which the header itself stands.
pub record SectionHeader : Type 0 where
  pub at : ℕ
  pub sh_name : ℕ
  pub sh_type : ℕ
  pub sh_flags : ℕ
  pub sh_offset : ℕ
  pub sh_size : ℕ
  pub sh_link : ℕ

-- gABI, "Program Header", Elf64_Phdr.
pub record ProgramHeader : Type 0 where
  pub p_type : ℕ
  pub p_flags : ℕ
  pub p_offset : ℕ
  pub p_vaddr : ℕ
  pub p_memsz : ℕ

-- The section header that stands at an offset.
abbrev pub section_header_at : List ℕ → ℕ → SectionHeader
section_header_at file at = record {
  at = at;
  sh_name = number_at file at 4;
  sh_type = number_at file (at + 4) 4;
  sh_flags = number_at file (at + 8) 8;
  sh_offset = number_at file (at + 24) 8;
  sh_size = number_at file (at + 32) 8;
  sh_link = number_at file (at + 40) 4;
}

-- The program header that stands at an offset.
abbrev pub program_header_at : List ℕ → ℕ → ProgramHeader
program_header_at file at = record {
  p_type = number_at file at 4;
  p_flags = number_at file (at + 4) 4;
  p_offset = number_at file (at + 8) 8;
  p_vaddr = number_at file (at + 16) 8;
  p_memsz = number_at file (at + 40) 8;
}

-- The entries of a table: so many of them, each of so many bytes, from an offset on.
abbrev pub entries : {Entry : Type 0} → (ℕ → Entry) → ℕ → ℕ → ℕ → List Entry
entries entry_at size at zero = []
entries entry_at size at (suc n) = entry_at at ∷ entries entry_at size (at + size) n

-- The program headers, 56 bytes each.
abbrev pub program_headers : List ℕ → List ProgramHeader
program_headers file = entries (program_header_at file) 56 (e_phoff file) (e_phnum file)

-- gABI, "ELF Header", `e_shoff`: 0 says that there is no section header table.
abbrev pub has_table : List ℕ → Bool
has_table file = not (e_shoff file == 0)

-- The first section header, which describes no section.
abbrev pub header_0 : List ℕ → SectionHeader
header_0 file = section_header_at file (e_shoff file)

-- gABI, "ELF Header", `e_shnum`: where it is 0 the count is `sh_size` of header 0.
abbrev pub section_count : List ℕ → ℕ
section_count file = if e_shnum file == 0 then (header_0 file).sh_size else e_shnum file

-- gABI, "ELF Header", `e_shstrndx`: where it is 0xffff (SHN_XINDEX) the index is `sh_link` of header 0.
abbrev pub name_index : List ℕ → ℕ
name_index file = if e_shstrndx file == 0xffff then (header_0 file).sh_link else e_shstrndx file

-- The section headers, header 0 among them, 64 bytes each.
abbrev pub section_headers : List ℕ → List SectionHeader
section_headers file =
    if has_table file then entries (section_header_at file) 64 (e_shoff file) (section_count file) else []
