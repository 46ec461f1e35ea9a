-- The sections of a file: their names and their bytes.
use Rattle.std.specs.Prelude.{ℕ, Bool, false, not, ◌||◌, ◌==◌, if◌then◌else◌, List, [], min, length, take, drop, filter, find, Option, None, Some, position, slice_get}
use Rattle.std.specs.Option.{option_map, option_map_or}
use Rattle.std.specs.Str.{bytes_eq}
use Rattle.elf_model.specs.Fields.{has_flag}
use Rattle.elf_model.specs.Tables.{SectionHeader, name_index, section_headers}

-- gABI, "Sections", `sh_type`: SHT_NULL marks a header that describes no section.
abbrev pub is_unused : SectionHeader → Bool
is_unused header = header.sh_type == 0

-- gABI, "Sections", `sh_type`: SHT_NOBITS marks a section that takes no space in the file.
abbrev pub is_nobits : SectionHeader → Bool
is_nobits header = header.sh_type == 8

-- gABI, "Sections", `sh_flags`: SHF_COMPRESSED.
abbrev pub is_compressed : SectionHeader → Bool
is_compressed header = has_flag header.sh_flags 0x800

-- Those of some headers that describe a section.
abbrev pub used : List SectionHeader → List SectionHeader
used headers = filter (λ header. not (is_unused header)) headers

-- The sections: the headers in their order, without header 0 and without those of type SHT_NULL.
abbrev pub sections : List ℕ → List SectionHeader
sections file = used (drop 1 (section_headers file))

-- A section has bytes in the file.
abbrev pub has_bytes : SectionHeader → Bool
has_bytes header = not (is_unused header || is_nobits header)

-- How many bytes of the file a header's section has.
abbrev pub file_size : SectionHeader → ℕ
file_size header = if has_bytes header then header.sh_size else 0

-- Where a section's bytes begin. A section without bytes may name an offset past the end, and then stands at the end.
abbrev pub start : List ℕ → SectionHeader → ℕ
start file header = min header.sh_offset (length file)

-- A section's bytes.
abbrev pub bytes_of : List ℕ → SectionHeader → List ℕ
bytes_of file header = take (file_size header) (drop (start file header) file)

-- gABI, "ELF Header", `e_shstrndx`: index 0 (SHN_UNDEF) says that there is no section of names.
abbrev pub name_section : List ℕ → Option SectionHeader
name_section file = if name_index file == 0 then None else slice_get (section_headers file) (name_index file)

-- gABI, "String Table": the text at an index of a string table, up to its NUL; none where no NUL follows.
abbrev pub text_at : List ℕ → ℕ → Option (List ℕ)
text_at table at = option_map (λ end. take end (drop at table)) (position (λ byte. byte == 0) (drop at table))

-- The string table that has the names.
abbrev pub name_table : List ℕ → Option (List ℕ)
name_table file = option_map (bytes_of file) (name_section file)

-- The name at an index of the table of names. Without a table all names are empty.
abbrev pub name_in : Option (List ℕ) → ℕ → Option (List ℕ)
name_in table at = option_map_or (λ texts. text_at texts at) table (Some [])

-- A section's name.
abbrev pub name_of : List ℕ → SectionHeader → Option (List ℕ)
name_of file header = name_in (name_table file) header.sh_name

-- A section has this name.
abbrev pub is_named : List ℕ → List ℕ → SectionHeader → Bool
is_named file name header = option_map_or (bytes_eq name) (name_of file header) false

-- The section of a name: the first of those that have it.
unfoldable pub section : List ℕ → List ℕ → Option SectionHeader
section file name = find (is_named file name) (sections file)
