-- The fields of a little-endian ELF64 file. Offsets count bytes from the start of the file.
use Rattle.std.specs.Prelude.{ℕ, ◌+◌, Bool, not, ◌==◌, nat_lt, bit_and, List, drop, length}
use Rattle.byteorder.specs.Endian.{little_number}

-- The number in so many bytes of the file from an offset on, the lowest byte first. Bytes past the end count as 0.
unfoldable pub number_at : List ℕ → ℕ → ℕ → ℕ
number_at file at size = little_number size (drop at file)

-- Bytes pass the end of the file where their offset plus their number, as whole numbers, is above its length.
abbrev pub passes_end : List ℕ → ℕ → ℕ → Bool
passes_end file at size = nat_lt (length file) (at + size)

-- One bit of a field of flags is set.
abbrev pub has_flag : ℕ → ℕ → Bool
has_flag flags flag = not (bit_and flags flag == 0)

-- gABI, "ELF Header", Elf64_Ehdr.
abbrev pub e_type : List ℕ → ℕ
e_type file = number_at file 16 2

abbrev pub e_phoff : List ℕ → ℕ
e_phoff file = number_at file 32 8

abbrev pub e_shoff : List ℕ → ℕ
e_shoff file = number_at file 40 8

abbrev pub e_phentsize : List ℕ → ℕ
e_phentsize file = number_at file 54 2

abbrev pub e_phnum : List ℕ → ℕ
e_phnum file = number_at file 56 2

abbrev pub e_shentsize : List ℕ → ℕ
e_shentsize file = number_at file 58 2

abbrev pub e_shnum : List ℕ → ℕ
e_shnum file = number_at file 60 2

abbrev pub e_shstrndx : List ℕ → ℕ
e_shstrndx file = number_at file 62 2
