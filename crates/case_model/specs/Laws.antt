-- What follows from the definitions.
use Rattle.std.specs.Prelude.{◌≡◌, ℕ, ◌+◌, ◌*◌, List, length, slice_range}
use Rattle.case_model.specs.Abbrev.{debug_abbrev}
use Rattle.case_model.specs.Info.{debug_info}
use Rattle.case_model.specs.Line.{debug_line}
use Rattle.case_model.specs.Elf.{shstrtab, section_headers, binary, abbrev_at, info_at, line_at, shstrtab_at, headers_at}

-- The binary of n functions has these sizes, as a whole and in its parts.
pub record HasSizes (n : ℕ) : Type 0 where
  pub abbrev_size : length debug_abbrev ≡ 46
  pub info_size : length (debug_info n) ≡ 21 + 42 * n
  pub line_size : length (debug_line n) ≡ 30 + 27 * n
  pub names_size : length shstrtab ≡ 49
  pub whole_size : length (binary n) ≡ 586 + 69 * n

abbrev pub BinariesHaveSizes : Type 0
BinariesHaveSizes = (n : ℕ) → HasSizes n

-- So many bytes of a file from an offset on.
abbrev pub bytes_at : List ℕ → ℕ → ℕ → List ℕ
bytes_at file at size = slice_range file at (at + size)

-- What a binary's headers tell of is there.
pub record IsWellPlaced (n : ℕ) : Type 0 where
  pub abbrev_there : bytes_at (binary n) abbrev_at (length debug_abbrev) ≡ debug_abbrev
  pub info_there : bytes_at (binary n) info_at (length (debug_info n)) ≡ debug_info n
  pub line_there : bytes_at (binary n) (line_at n) (length (debug_line n)) ≡ debug_line n
  pub names_there : bytes_at (binary n) (shstrtab_at n) (length shstrtab) ≡ shstrtab
  pub headers_there : bytes_at (binary n) (headers_at n) 320 ≡ section_headers n

abbrev pub SectionsAreWhereTheyAreSaid : Type 0
SectionsAreWhereTheyAreSaid = (n : ℕ) → IsWellPlaced n
