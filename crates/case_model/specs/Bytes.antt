-- How numbers and texts stand in a binary, and how parts stand one behind the other.
use Rattle.std.specs.Prelude.{ℕ, zero, suc, ◌+◌, ◌/◌, ◌%◌, nat_lt, if◌then◌else◌, List, [], ◌∷◌, ◌++◌, length}
use Rattle.std.specs.Int.{w16, w32, w64, to_le_bytes}
use Rattle.std.specs.List.{flat_map, range_with_len}

-- Numbers of 2, 4 and 8 bytes, the lowest byte first.
unfoldable pub u16_bytes : ℕ → List ℕ
u16_bytes n = to_le_bytes w16 n

unfoldable pub u32_bytes : ℕ → List ℕ
u32_bytes n = to_le_bytes w32 n

unfoldable pub u64_bytes : ℕ → List ℕ
u64_bytes n = to_le_bytes w64 n

-- The digits of a number in base 128, the lowest first, so many at most; each but the last is marked by its top bit.
abbrev pub uleb_digits : ℕ → ℕ → List ℕ
uleb_digits zero n = []
uleb_digits (suc more) n = if nat_lt n 128 then n ∷ [] else (n % 128 + 128) ∷ uleb_digits more (n / 128)

-- DWARF 5, section 7.6: unsigned LEB128, of a number below 2^64.
abbrev pub uleb : ℕ → List ℕ
uleb n = uleb_digits 10 n

-- LEB128 of a number below 64, with a sign or without: one byte.
abbrev pub small_leb : ℕ → List ℕ
small_leb n = n ∷ []

-- A text and the NUL that ends it.
abbrev pub with_nul : List ℕ → List ℕ
with_nul text = text ++ 0 ∷ []

-- A part behind its length in 4 bytes.
abbrev pub counted : List ℕ → List ℕ
counted part = u32_bytes (length part) ++ part

-- The parts of n functions, one behind the other, from that of function 0 on.
unfoldable pub for_each_function : (ℕ → List ℕ) → ℕ → List ℕ
for_each_function part n = flat_map part (range_with_len 0 n)
