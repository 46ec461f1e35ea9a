-- What is judged of a file's headers, in order: each item with the place at which it fails, if it fails.
use Rattle.std.specs.Prelude.{ℕ, ◌*◌, Bool, not, ◌&&◌, ◌||◌, ◌==◌, nat_lt, nat_eq, List, [], ◌∷◌, ◌++◌, length, slice_index, Option, is_none}
use Rattle.std.specs.List.{starts_with, flat_map}
use Rattle.std.specs.Option.{option_and_then}
use Rattle.refusal.specs.declared.place.Place.{Place}
use Rattle.refusal.specs.Place.{fails_at, in_binary}
use Rattle.refusal.specs.declared.kind.Kind.{Kind}
use Rattle.refusal.specs.declared.kind.Kind.TheVariants.{NotElf, NotElf64Little, BadType, BadHeader, SectionPastEnd, NameBad, Compressed}
use Rattle.elf_model.specs.Fields.{passes_end, e_type, e_phoff, e_phentsize, e_phnum, e_shoff, e_shentsize, e_shnum}
use Rattle.elf_model.specs.Tables.{SectionHeader, has_table, section_count, name_index}
use Rattle.elf_model.specs.Sections.{has_bytes, is_compressed, name_section, name_of, section, sections}

-- An item that fails so many bytes from the start of the binary where its cause holds.
abbrev pub fails : Bool → ℕ → Kind → Option Place
fails cause at kind = fails_at cause (in_binary at kind)

-- gABI, "ELF Identification": the first bytes are 0x7f and "ELF".
abbrev pub has_magic : List ℕ → Bool
has_magic file = starts_with nat_eq file (0x7f ∷ 0x45 ∷ 0x4c ∷ 0x46 ∷ [])

-- gABI, "ELF Identification": EI_CLASS is ELFCLASS64, and EI_DATA is ELFDATA2LSB.
abbrev pub is_64_little : List ℕ → Bool
is_64_little file = slice_index file 4 == 2 && slice_index file 5 == 1

-- gABI, "ELF Header", `e_type`: ET_EXEC or ET_DYN.
abbrev pub is_program : List ℕ → Bool
is_program file = e_type file == 2 || e_type file == 3

-- Where the count is taken from header 0, that header has to be within the file.
abbrev pub header_0_passes_end : List ℕ → Bool
header_0_passes_end file = e_shnum file == 0 && passes_end file (e_shoff file) 64

-- The section headers pass the end of the file, or header 0 does where it has their count.
abbrev pub section_headers_pass_end : List ℕ → Bool
section_headers_pass_end file = header_0_passes_end file || passes_end file (e_shoff file) (64 * section_count file)

-- What the file is.
abbrev pub identity_items : List ℕ → List (Option Place)
identity_items file =
    fails (nat_lt (length file) 64 || not (has_magic file)) 0 NotElf
    ∷ fails (not (is_64_little file)) 4 NotElf64Little
    ∷ fails (not (is_program file)) 16 BadType
    ∷ []

-- Where the program headers are. A count of 0xffff (PN_XNUM) is not taken from elsewhere.
abbrev pub program_table_items : List ℕ → List (Option Place)
program_table_items file =
    fails (e_phnum file == 0xffff) 56 BadHeader
    ∷ fails (not (e_phnum file == 0) && not (e_phentsize file == 56)) 54 BadHeader
    ∷ fails (passes_end file (e_phoff file) (56 * e_phnum file)) 32 BadHeader
    ∷ []

-- Where the section headers are, and which of them has the names.
-- Why: `e_shstrndx` and `e_shentsize` of a file without a table of section headers are not judged: nothing rests on
-- them.
abbrev pub section_table_items : List ℕ → List (Option Place)
section_table_items file =
    fails (has_table file && not (e_shentsize file == 64)) 58 BadHeader
    ∷ fails (has_table file && section_headers_pass_end file) 40 BadHeader
    ∷ fails (has_table file && not (nat_lt (name_index file) (section_count file))) 62 BadHeader
    ∷ []

-- The file header: its items from first to last.
abbrev pub header_items : List ℕ → List (Option Place)
header_items file = identity_items file ++ program_table_items file ++ section_table_items file

-- A section's bytes are within the file.
abbrev pub extent_item : List ℕ → SectionHeader → Option Place
extent_item file header =
    fails (has_bytes header && passes_end file header.sh_offset header.sh_size) header.at SectionPastEnd

-- A section has a name.
abbrev pub name_item : List ℕ → SectionHeader → Option Place
name_item file header = fails (is_none (name_of file header)) header.at NameBad

-- The string table of the names, where there is one, is within the file.
abbrev pub name_table_item : List ℕ → Option Place
name_table_item file = option_and_then (extent_item file) (name_section file)

-- The items of one section: its extent, then its name.
abbrev pub items_of : List ℕ → SectionHeader → List (Option Place)
items_of file header = extent_item file header ∷ name_item file header ∷ []

-- The sections: first of all where the names are, then each section.
abbrev pub section_items : List ℕ → List (Option Place)
section_items file = name_table_item file ∷ flat_map (items_of file) (sections file)

-- The items of the file header and of the sections.
unfoldable pub items : List ℕ → List (Option Place)
items file = header_items file ++ section_items file

-- The item of a look-up: the bytes of the section of a name are not compressed.
unfoldable pub lookup_item : List ℕ → List ℕ → Option Place
lookup_item file name =
    option_and_then (λ header. fails (is_compressed header) header.at Compressed) (section file name)
