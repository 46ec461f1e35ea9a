-- What follows from the definitions.
use Rattle.std.specs.Prelude.{◌≡◌, ℕ, ◌+◌, ◌*◌, ◌/◌, ◌%◌, ◌^◌, ◌<◌, ◌==◌, ◌&&◌, nat_lt, max, if◌then◌else◌}
use Rattle.key_types.specs.Discriminators.{split}

-- LLVM, DILocation.h, encodeComponent and getPrefixEncodingFromUnsigned: the bits of a number below 4,096, and how many
-- values so many bits have.
abbrev pub encoded : ℕ → ℕ
encoded n = if n == 0 then 1 else (if nat_lt n 32 then 2 * n else 2 * (n / 32 * 64 + 32 + n % 32))

abbrev pub values : ℕ → ℕ
values n = if n == 0 then 2 else (if nat_lt n 32 then 2 ^ 7 else 2 ^ 14)

-- LLVM, DILocation.cpp, encodeDiscriminator, of a base and a factor: the numbers up to the last that is not 0.
abbrev pub packed : ℕ → ℕ → ℕ
packed base factor =
    if base == 0 && factor == 0 then 0
    else (if factor == 0 then encoded base else encoded base + values base * encoded factor)

-- What is packed is read.
abbrev pub SplitReadsWhatIsPacked : Type 0
SplitReadsWhatIsPacked =
    (base factor : ℕ) → base < 4096 → factor < 4096 → split (packed base factor) ≡ (base, max factor 1)
