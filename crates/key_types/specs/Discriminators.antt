-- Split discriminators: numbers below 4,096, packed into one from its low end (LLVM, DILocation.h,
-- getUnsignedFromPrefixEncoding and getNextComponentInDiscriminator).
use Rattle.std.specs.Prelude.{ℕ, ◌+◌, ◌*◌, ◌/◌, ◌%◌, ◌^◌, Bool, ◌==◌, if◌then◌else◌}

-- An odd discriminator begins with the number 0, which takes that one bit.
abbrev pub begins_with_zero : ℕ → Bool
begins_with_zero d = d % 2 == 1

-- In an even one bits 1 to 5 are the low bits of the number. Where bit 6 is set, bits 7 to 13 are its high ones.
abbrev pub is_long : ℕ → Bool
is_long d = d / 2 ^ 6 % 2 == 1

-- The number that a discriminator begins with.
abbrev pub component : ℕ → ℕ
component d =
    if begins_with_zero d then 0
    else (if is_long d then d / 2 ^ 7 % 2 ^ 7 * 2 ^ 5 + d / 2 % 2 ^ 5 else d / 2 % 2 ^ 5)

-- What stands behind that number.
abbrev pub rest : ℕ → ℕ
rest d = if begins_with_zero d then d / 2 else (if is_long d then d / 2 ^ 14 else d / 2 ^ 7)

-- The base is the first number: it tells the places of one line apart.
abbrev pub base : ℕ → ℕ
base d = component d

-- The factor is the second, or 1 where that is 0: how often the code at a place was copied.
abbrev pub factor : ℕ → ℕ
factor d = if component (rest d) == 0 then 1 else component (rest d)

-- Both.
unfoldable pub split : ℕ → ℕ × ℕ
split d = (base d, factor d)
