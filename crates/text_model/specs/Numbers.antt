-- Numbers in text: what digits spell, and how a number is printed.
use Rattle.std.specs.Prelude.{ℕ, ◌^◌, Bool, false, ◌&&◌, nat_lt, nat_eq, List, ◌++◌, length, drop, codes, Option, Some, None, if◌then◌else◌}
use Rattle.std.specs.Prelude.{ℤ, pos, neg_ℤ}
use Rattle.std.specs.Char.{is_digit}
use Rattle.std.specs.Fmt.{decimal, digits, signed_decimal}
use Rattle.std.specs.List.{list_all, starts_with}
use Rattle.std.specs.Option.{option_map}
use Rattle.std.specs.Str.Parse.{digits_value}

-- What the function gives of the value, if there is one: what a `do` of options chains by.
infixl 10 ◌>>=◌
abbrev pub ◌>>=◌ : {A B : Type 0} → Option A → (A → Option B) → Option B
None >>= f = None
(Some x) >>= f = f x

-- The number, if it fits so many bits.
abbrev pub within_bits : ℕ → ℕ → Option ℕ
within_bits bits n = if nat_lt n (2 ^ bits) then Some n else None

-- At least one digit of the base, and nothing else.
abbrev pub is_numeral : ℕ → List ℕ → Bool
is_numeral base text = nat_lt 0 (length text) && list_all (λ c. is_digit c base) text

-- The number that a numeral spells, however large; any other text spells none.
unfoldable pub number_of : ℕ → List ℕ → Option ℕ
number_of base text = if is_numeral base text then Some (digits_value base text) else None

-- The number that decimal digits spell.
abbrev pub decimal_of : List ℕ → Option ℕ
decimal_of text = number_of 10 text

-- A minus sign leads.
abbrev pub has_minus : List ℕ → Bool
has_minus text = starts_with nat_eq text (codes "-")

-- The number below 0 of this size; of size 0 it is 0.
abbrev pub below_zero : ℕ → ℤ
below_zero n = neg_ℤ (pos n)

-- The number that decimal digits spell, below 0 behind a minus sign.
unfoldable pub signed_of : List ℕ → Option ℤ
signed_of text =
    if has_minus text then option_map below_zero (decimal_of (drop 1 text)) else option_map pos (decimal_of text)

-- Hexadecimal digits are 0 to 9, a to f and A to F.
abbrev pub hex_of : List ℕ → Option ℕ
hex_of text = number_of 16 text

-- The prefix is 0x, never 0X.
abbrev pub has_prefix : List ℕ → Bool
has_prefix text = starts_with nat_eq text (codes "0x")

-- A hexadecimal number behind 0x.
unfoldable pub prefixed_of : List ℕ → Option ℕ
prefixed_of text = if has_prefix text then hex_of (drop 2 text) else None

-- How a hexadecimal number is printed: lower-case digits behind 0x, without leading zeros (up to 64 digits).
unfoldable pub hex_text : ℕ → List ℕ
hex_text n = codes "0x" ++ digits 16 false n

-- How a decimal number is printed: without leading zeros (up to 64 digits).
abbrev pub decimal_text : ℕ → List ℕ
decimal_text n = decimal n

-- How a signed number is printed: its size, behind a minus sign where it is below 0.
abbrev pub signed_text : ℤ → List ℕ
signed_text n = signed_decimal n
