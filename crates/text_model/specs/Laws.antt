-- Laws that tie the definitions to a second way of saying them.
use Rattle.std.specs.Prelude.{◌≡◌, ◌↔◌, ℕ, ◌+◌, ◌*◌, ◌<◌, ◌^◌, true, false, List, [], ◌∷◌, ◌++◌, length, map, filter, codes, Some, ℤ, unsigned_abs}
use Rattle.std.specs.Char.{digit_value, to_ascii_uppercase}
use Rattle.std.specs.List.{AllByRecursion, flat_map, list_all, list_any}
use Rattle.text_model.specs.Fields.{fields_of, is_blank, is_filled}
use Rattle.text_model.specs.Lines.{is_line_feed, lines_of, ended_lines_of}
use Rattle.text_model.specs.LineTests.{contains}
use Rattle.text_model.specs.Numbers.{number_of, decimal_of, decimal_text, signed_of, signed_text, prefixed_of, hex_text}

-- A line as a text holds it, with the line feed that ends it.
abbrev pub ended : List ℕ → List ℕ
ended line = line ++ 10 ∷ []

-- No byte is a line feed.
abbrev pub HasNoLineFeed : List ℕ → Type 0
HasNoLineFeed line = list_any is_line_feed line ≡ false

-- A text is its ended lines and then a rest, none of them with a line feed. That rest is the last line, unless it is
-- empty.
pub record IsTextOf (text : List ℕ) (ended_lines lines : List (List ℕ)) (rest : List ℕ) : Type 0 where
  pub clean : AllByRecursion HasNoLineFeed ended_lines
  pub open_end : HasNoLineFeed rest
  pub joined : text ≡ flat_map ended ended_lines ++ rest
  pub all : lines ≡ ended_lines ++ filter is_filled (rest ∷ [])

-- The lines of a text make it up so.
abbrev pub LinesJoin : Type 0
LinesJoin = (text : List ℕ) → (rest : List ℕ) × IsTextOf text (ended_lines_of text) (lines_of text) rest

-- Only the lines of a text make it up so.
abbrev pub LinesSplit : Type 0
LinesSplit =
    (text : List ℕ) (ended_lines lines : List (List ℕ)) (rest : List ℕ) → IsTextOf text ended_lines lines rest
    → (ended_lines_of text ≡ ended_lines) × (lines_of text ≡ lines)

-- A field, and the blanks behind it.
pub record IsSpaced (part : List ℕ × List ℕ) : Type 0 where
  pub filled : is_filled part.0 ≡ true
  pub clean : list_any is_blank part.0 ≡ false
  pub apart : is_filled part.1 ≡ true
  pub blank : list_all is_blank part.1 ≡ true

-- Both, one behind the other.
abbrev pub spaced : List ℕ × List ℕ → List ℕ
spaced part = part.0 ++ part.1

-- A line is blanks, then fields with blanks behind each, and then a rest without a blank. That rest is the last field,
-- unless it is empty.
pub record IsLineOf
    (line : List ℕ) (fields : List (List ℕ)) (parts : List (List ℕ × List ℕ)) (lead rest : List ℕ)
    : Type 0 where
  pub lead_blank : list_all is_blank lead ≡ true
  pub parts_spaced : AllByRecursion IsSpaced parts
  pub rest_clean : list_any is_blank rest ≡ false
  pub joined : line ≡ lead ++ flat_map spaced parts ++ rest
  pub all : fields ≡ map (λ part. part.0) parts ++ filter is_filled (rest ∷ [])

-- The fields of a line make it up so.
abbrev pub FieldsJoin : Type 0
FieldsJoin =
    (line : List ℕ)
    → (parts : List (List ℕ × List ℕ)) × (lead rest : List ℕ) × IsLineOf line (fields_of line) parts lead rest

-- Only the fields of a line make it up so.
abbrev pub FieldsSplit : Type 0
FieldsSplit =
    (line : List ℕ) (fields : List (List ℕ)) (parts : List (List ℕ × List ℕ)) (lead rest : List ℕ)
    → IsLineOf line fields parts lead rest → fields_of line ≡ fields

-- A needle stands in a text, behind a front and before a rest.
abbrev pub IsPartOf : List ℕ → List ℕ → Type 0
IsPartOf text needle = (front rest : List ℕ) × (text ≡ front ++ (needle ++ rest))

-- A text contains what stands in it, and nothing else.
abbrev pub ContainsIsPart : Type 0
ContainsIsPart = (text needle : List ℕ) → (contains text needle ≡ true) ↔ IsPartOf text needle

-- A printed decimal number is read as that number.
abbrev pub DecimalTextIsRead : Type 0
DecimalTextIsRead = (n : ℕ) → n < 2 ^ 128 → decimal_of (decimal_text n) ≡ Some n

-- A printed signed number is read as that number.
abbrev pub SignedTextIsRead : Type 0
SignedTextIsRead = (n : ℤ) → unsigned_abs n < 2 ^ 128 → signed_of (signed_text n) ≡ Some n

-- A printed hexadecimal number is read as that number.
abbrev pub HexTextIsRead : Type 0
HexTextIsRead = (n : ℕ) → n < 2 ^ 64 → prefixed_of (hex_text n) ≡ Some n

-- What digits are worth by their places: each one's value, times the base to the power of how many stand behind it.
abbrev pub place_value : ℕ → List ℕ → ℕ
place_value base [] = 0
place_value base (digit ∷ digits) = digit_value digit * base ^ length digits + place_value base digits

-- The number that a numeral spells is the sum of its digits by their places.
abbrev pub NumbersAreByPlace : Type 0
NumbersAreByPlace = (base : ℕ) (text : List ℕ) (n : ℕ) → number_of base text ≡ Some n → n ≡ place_value base text

-- Capital digits and small ones spell the same.
abbrev pub CapitalsSpellTheSame : Type 0
CapitalsSpellTheSame = (base : ℕ) (text : List ℕ) → number_of base (map to_ascii_uppercase text) ≡ number_of base text

-- Zeros in front of a numeral change nothing.
abbrev pub LeadingZerosSpellNothing : Type 0
LeadingZerosSpellNothing =
    (base : ℕ) (text : List ℕ) (n : ℕ) → number_of base text ≡ Some n → number_of base (codes "0" ++ text) ≡ Some n
