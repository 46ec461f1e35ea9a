-- LEB128: a number in base 128, a byte a digit, the lowest digit first (DWARF 5, section 7.6).
use Rattle.std.specs.Prelude.{◌≡◌, ◌<◌, ◌≤◌, ◌+◌, ◌*◌, ◌%◌, ◌^◌, ◌-ℤ◌, ◌&&◌, ℕ, ℤ, pos, neg_ℤ, int_lt, int_le, Bool, nat_lt, nat_le, if◌then◌else◌, List, [], ◌∷◌, length}

-- A byte with its top bit set goes on: more bytes of its number follow.
abbrev pub goes_on : ℕ → Bool
goes_on byte = nat_le 128 byte

-- The bytes of one number: each of them goes on but the last.
abbrev pub IsLeb : List ℕ → Type 0
IsLeb [] = ⊥
IsLeb (byte ∷ []) = byte < 128
IsLeb (byte ∷ next ∷ rest) = (128 ≤ byte) × IsLeb (next ∷ rest)

-- The number whose digits are the low seven bits of the bytes.
abbrev pub unsigned_value : List ℕ → ℕ
unsigned_value [] = 0
unsigned_value (byte ∷ rest) = byte % 128 + 128 * unsigned_value rest

-- Two's complement of so many values: the upper half of the numbers stands for the negative ones.
abbrev pub twos_complement : ℕ → ℕ → ℤ
twos_complement values n = if nat_lt (2 * n) values then pos n else pos n -ℤ pos values

-- The same digits, read as two's complement.
abbrev pub signed_value : List ℕ → ℤ
signed_value bytes = twos_complement (128 ^ length bytes) (unsigned_value bytes)

-- Whether a number fits 64 bits, without and with a sign.
abbrev pub fits_u64 : ℕ → Bool
fits_u64 n = nat_lt n (2 ^ 64)

abbrev pub fits_i64 : ℤ → Bool
fits_i64 z = int_le (neg_ℤ (pos (2 ^ 63))) z && int_lt z (pos (2 ^ 63))

-- How many values so many bits have, from 1 to 63.
abbrev pub IsScale : ℕ → Type 0
IsScale scale = (bits : ℕ) × (bits < 63) × (scale ≡ 2 ^ (bits + 1))
