-- What a line of a profile text says (LLVM, SampleProfReader.h, "Text format"). A line is read literally: there are no
-- other blanks than the spaces that stand here.
use Rattle.std.specs.Prelude.{ℕ, ◌^◌, ◌==◌, nat_lt, nat_eq, Bool, ◌||◌, List, [], ◌∷◌, drop, codes, Option, None, Some, if◌then◌else◌}
use Rattle.std.specs.List.{prefix_len, slice_split, starts_with}
use Rattle.std.specs.Option.{option_map}
use Rattle.text_model.specs.LineTests.{is_blank_line}
use Rattle.text_model.specs.Numbers.{decimal_of}
pub use Rattle.text_model.specs.Numbers.{◌>>=◌, within_bits}
use Rattle.profile_model.specs.Names.{is_name}
use Rattle.profile_model.specs.Profile.{Line, function_line, body_line, call_line}

-- The number that decimal digits spell, if it fits so many bits.
unfoldable pub number_within : ℕ → List ℕ → Option ℕ
number_within bits digits = decimal_of digits >>= within_bits bits

-- The parts of a text between bytes of this value, one more than there are such bytes.
abbrev pub parts_at : ℕ → List ℕ → List (List ℕ)
parts_at byte text = slice_split (λ b. b == byte) text

abbrev pub space : ℕ
space = 32

abbrev pub dot : ℕ
dot = 46

abbrev pub colon : ℕ
colon = 58

-- NAME:NUMBER
abbrev pub named_by : List (List ℕ) → Option (List ℕ × ℕ)
named_by (name ∷ digits ∷ []) = if is_name name then option_map (λ n. (name, n)) (number_within 64 digits) else None
named_by _ = None

unfoldable pub named_of : List ℕ → Option (List ℕ × ℕ)
named_of word = named_by (parts_at colon word)

-- OFFSET or OFFSET.DISC
abbrev pub located_by : List (List ℕ) → Option (ℕ × ℕ)
located_by (offset ∷ []) = option_map (λ n. (n, 0)) (number_within 16 offset)
located_by (offset ∷ disc ∷ []) = do
  offset ← number_within 16 offset
  disc ← number_within 32 disc
  Some (offset, disc)
located_by _ = None

-- OFFSET or OFFSET.DISC, with a colon behind it.
abbrev pub location_by : List (List ℕ) → Option (ℕ × ℕ)
location_by (location ∷ [] ∷ []) = located_by (parts_at dot location)
location_by _ = None

unfoldable pub location_of : List ℕ → Option (ℕ × ℕ)
location_of word = location_by (parts_at colon word)

-- CALLEE:COUNT, word by word
unfoldable pub targets_of : List (List ℕ) → Option (List (List ℕ × ℕ))
targets_of [] = Some []
targets_of (word ∷ words) = do
  target ← named_of word
  targets ← targets_of words
  Some (target ∷ targets)

-- A body line behind its count: targets.
abbrev pub body_by : ℕ → ℕ × ℕ → ℕ → List (List ℕ) → Option Line
body_by depth location count words = option_map (body_line depth location.0 location.1 count) (targets_of words)

-- A call behind its location: CALLEE:TOTAL
unfoldable pub call_of : ℕ → ℕ × ℕ → List ℕ → List (List ℕ) → Option Line
call_of depth location word [] =
    option_map (λ callee. call_line depth location.0 location.1 callee.0 callee.1) (named_of word)
call_of depth location word _ = None

-- What stands behind a location: where the first word is a number, a body line's COUNT with targets; else a call.
abbrev pub behind_location : ℕ → ℕ × ℕ → Option ℕ → List ℕ → List (List ℕ) → Option Line
behind_location depth location None word words = call_of depth location word words
behind_location depth location (Some count) word words = body_by depth location count words

-- A line at a depth below 0: its location, and what stands behind it.
unfoldable pub line_below : ℕ → List (List ℕ) → Option Line
line_below depth (word ∷ next ∷ words) = do
  location ← location_of word
  behind_location depth location (number_within 64 next) next words
line_below depth _ = None

-- NAME:TOTAL:HEAD
unfoldable pub function_of : List (List ℕ) → Option Line
function_of (name ∷ total ∷ head ∷ []) = if is_name name then (do
  total ← number_within 64 total
  head ← number_within 64 head
  Some (function_line name total head)) else None
function_of _ = None

-- How many spaces a line begins with, and what stands behind them.
abbrev pub spaces_of : List ℕ → ℕ
spaces_of line = prefix_len (λ b. b == space) line

abbrev pub behind_spaces : List ℕ → List ℕ
behind_spaces line = drop (spaces_of line) line

-- Blank lines and comments are passed over. A comment may stand behind spaces.
unfoldable pub is_passed : List ℕ → Bool
is_passed line = is_blank_line line || starts_with nat_eq (behind_spaces line) (codes "#")

-- What a line says, if it has the form of one. Its depth is the number of its first spaces.
-- Why: A text is read as LLVM writes it, literally: what is written otherwise is by no tool that is known.
unfoldable pub line_of : List ℕ → Option Line
line_of line =
    if spaces_of line == 0 then function_of (parts_at colon line)
    else line_below (spaces_of line) (parts_at space (behind_spaces line))
