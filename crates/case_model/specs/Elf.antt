-- A generated binary: an ELF64 file without code, with the debugging information of its functions.
use Rattle.std.specs.Prelude.{ℕ, ◌+◌, ◌*◌, List, [], ◌∷◌, ◌++◌, length, take, codes, replicate}
use Rattle.std.specs.List.{flat_map}
use Rattle.case_model.specs.Bytes.{u16_bytes, u32_bytes, u64_bytes, with_nul}
use Rattle.case_model.specs.Functions.{first_address, function_size}
use Rattle.case_model.specs.Abbrev.{debug_abbrev}
use Rattle.case_model.specs.Info.{debug_info}
use Rattle.case_model.specs.Line.{debug_line}

-- The names of the sections, that of section 0 first.
abbrev pub names : List (List ℕ)
names = [] ∷ codes ".debug_abbrev" ∷ codes ".debug_info" ∷ codes ".debug_line" ∷ codes ".shstrtab" ∷ []

-- gABI, "String Table": the section `.shstrtab`.
abbrev pub shstrtab : List ℕ
shstrtab = flat_map with_nul names

-- Where the name of a section begins in `.shstrtab`.
abbrev pub name_at : ℕ → ℕ
name_at i = length (flat_map with_nul (take i names))

-- Where the parts behind the two headers begin.
abbrev pub abbrev_at : ℕ
abbrev_at = 64 + 56

abbrev pub info_at : ℕ
info_at = abbrev_at + length debug_abbrev

abbrev pub line_at : ℕ → ℕ
line_at n = info_at + length (debug_info n)

abbrev pub shstrtab_at : ℕ → ℕ
shstrtab_at n = line_at n + length (debug_line n)

abbrev pub headers_at : ℕ → ℕ
headers_at n = shstrtab_at n + length shstrtab

-- gABI, "ELF Identification": the magic, 64 bits, little endian, the current version, no extension.
unfoldable pub e_ident : List ℕ
e_ident = 0x7f ∷ codes "ELF" ++ 2 ∷ 1 ∷ 1 ∷ [] ++ replicate 9 0

-- gABI, "ELF Header": an executable (ET_EXEC) for x86-64 (EM_X86_64), of the current version, without an entry point.
unfoldable pub program_fields : List ℕ
program_fields = u16_bytes 2 ++ u16_bytes 62 ++ u32_bytes 1 ++ u64_bytes 0

-- Where the program header and the section headers begin.
abbrev pub place_fields : ℕ → List ℕ
place_fields n = u64_bytes 64 ++ u64_bytes (headers_at n)

-- No flags; this header has 64 bytes; one program header of 56, five section headers of 64, the last has the names.
unfoldable pub count_fields : List ℕ
count_fields =
    u32_bytes 0 ++ u16_bytes 64 ++ u16_bytes 56 ++ u16_bytes 1 ++ u16_bytes 64 ++ u16_bytes 5 ++ u16_bytes 4

-- The file header.
unfoldable pub file_header : ℕ → List ℕ
file_header n = e_ident ++ program_fields ++ place_fields n ++ count_fields

-- gABI, "Program Header": a loaded segment (PT_LOAD) that may be read and executed (PF_R, PF_X), with no bytes in the
-- file, which holds the functions.
unfoldable pub program_header : ℕ → List ℕ
program_header n =
    u32_bytes 1 ++ u32_bytes 5 ++ u64_bytes 0 ++ u64_bytes first_address ++ u64_bytes first_address ++ u64_bytes 0
    ++ u64_bytes (function_size * n) ++ u64_bytes 0x1000

-- gABI, "Sections": a section's name, type, offset and size, without flags, address, link, info and entries, aligned
-- to 1 byte.
unfoldable pub section_header : ℕ → ℕ → ℕ → ℕ → List ℕ
section_header name type offset size =
    u32_bytes name ++ u32_bytes type ++ u64_bytes 0 ++ u64_bytes 0 ++ u64_bytes offset ++ u64_bytes size
    ++ u32_bytes 0 ++ u32_bytes 0 ++ u64_bytes 1 ++ u64_bytes 0

-- The types of the sections: bytes of the program's own (SHT_PROGBITS), and a string table (SHT_STRTAB).
abbrev pub sht_progbits : ℕ
sht_progbits = 1

abbrev pub sht_strtab : ℕ
sht_strtab = 3

-- gABI, "Sections", figure 4-9: the header of index 0 is all zeros.
unfoldable pub empty_header : List ℕ
empty_header = replicate 64 0

-- The five section headers.
unfoldable pub section_headers : ℕ → List ℕ
section_headers n =
    empty_header
    ++ section_header (name_at 1) sht_progbits abbrev_at (length debug_abbrev)
    ++ section_header (name_at 2) sht_progbits info_at (length (debug_info n))
    ++ section_header (name_at 3) sht_progbits (line_at n) (length (debug_line n))
    ++ section_header (name_at 4) sht_strtab (shstrtab_at n) (length shstrtab)

-- The binary of n functions.
unfoldable pub binary : ℕ → List ℕ
binary n =
    file_header n ++ program_header n ++ debug_abbrev ++ debug_info n ++ debug_line n ++ shstrtab ++ section_headers n
