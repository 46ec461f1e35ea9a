-- Load lines: perf's records of files that were loaded into memory, as perf-script(1) prints them with
-- `--show-mmap-events`. The form is this project's own.
use Rattle.std.specs.Prelude.{ℕ, ◌==◌, nat_eq, ◌+◌, Bool, true, not, ◌&&◌, ◌||◌, List, [], ◌∷◌, length, drop, take, codes, Option, None, Some, position, unwrap_or, if◌then◌else◌}
use Rattle.std.specs.List.{filter_map, starts_with}
use Rattle.std.specs.Option.{option_map}
use Rattle.std.specs.Str.{bytes_eq}
use Rattle.text_model.specs.Fields.{is_blank, is_filled}
use Rattle.text_model.specs.LineTests.{is_comment}
use Rattle.sample_model.specs.declared.load.Load.{Load}
use Rattle.sample_model.specs.Line.{◌>>=◌, address_of}

-- What a load line tells: so many addresses from a first one on hold the bytes of the file of this name from an offset
-- on.
pub record LoadLine : Type 0 where
  pub start : ℕ
  pub len : ℕ
  pub offset : ℕ
  pub name : List ℕ

-- How many bytes stand before the first of a kind, or all where there is none.
abbrev pub count_before : (ℕ → Bool) → List ℕ → ℕ
count_before test text = unwrap_or (position test text) (length text)

-- A text without the blanks in front.
abbrev pub from_field : List ℕ → List ℕ
from_field text = drop (count_before (λ b. not (is_blank b)) text) text

-- The first field of a text, which is empty where there is none.
abbrev pub first_field : List ℕ → List ℕ
first_field text = take (count_before is_blank (from_field text)) (from_field text)

-- What stands behind the first field.
abbrev pub behind_field : List ℕ → List ℕ
behind_field text = drop (count_before is_blank (from_field text)) (from_field text)

-- A field ends where the text does or a blank follows.
abbrev pub is_field_end : List ℕ → Bool
is_field_end [] = true
is_field_end (b ∷ text) = is_blank b

-- What stands behind the first place of some bytes behind which a text passes a test.
abbrev pub behind_where : (List ℕ → Bool) → List ℕ → List ℕ → Option (List ℕ)
behind_where test bytes [] = None
behind_where test bytes (b ∷ text) =
    if starts_with nat_eq (b ∷ text) bytes && test (drop (length bytes) (b ∷ text))
    then Some (drop (length bytes) (b ∷ text)) else behind_where test bytes text

-- What stands behind the first place of some bytes.
abbrev pub behind_first : List ℕ → List ℕ → Option (List ℕ)
behind_first bytes text = behind_where (λ _. true) bytes text

-- What stands behind the first field that ends in these bytes.
abbrev pub behind_ending : List ℕ → List ℕ → Option (List ℕ)
behind_ending ending text = behind_where is_field_end ending text

-- What stands before the first place of a byte, and what stands behind it.
abbrev pub parts_at : ℕ → List ℕ → Option (List ℕ × List ℕ)
parts_at byte text = option_map (λ at. (take at text, drop (at + 1) text)) (position (λ b. b == byte) text)

-- The addresses of a load are [0xSTART(0xLEN).
unfoldable pub extent_of : List ℕ → Option (ℕ × ℕ)
extent_of field = do
  bracket ← parts_at 91 field
  start ← parts_at 40 bracket.1
  len ← parts_at 41 start.1
  if is_filled bracket.0 || is_filled len.1 then None else (do
    first ← address_of start.0
    count ← address_of len.0
    Some (first, count))

-- An offset is 0, or hexadecimal behind 0x, within 64 bits.
unfoldable pub offset_of : List ℕ → Option ℕ
offset_of field = if bytes_eq field (codes "0") then Some 0 else address_of field

-- What stands behind the field @, where it is the first.
unfoldable pub behind_at : List ℕ → Option (List ℕ)
behind_at text = if bytes_eq (first_field text) (codes "@") then Some (behind_field text) else None

-- A name is the rest of a line from its first byte that is no blank on.
unfoldable pub name_in : List ℕ → Option (List ℕ)
name_in text = if is_filled (from_field text) then Some (from_field text) else None

-- A load line is no comment, and behind its mark stand fields up to one that ends in a colon, the addresses, @, the
-- offset, fields up to one that ends in ]:, one field, and the name.
unfoldable pub load_line_of : List ℕ → Option LoadLine
load_line_of line = if is_comment line then None else (do
  mapped ← behind_first (codes "PERF_RECORD_MMAP2 ") line
  process ← behind_ending (codes ":") mapped
  extent ← extent_of (first_field process)
  place ← behind_at (behind_field process)
  offset ← offset_of (first_field place)
  flags ← behind_ending (codes "]:") (behind_field place)
  name ← name_in (behind_field flags)
  Some (record { start = extent.0; len = extent.1; offset = offset; name = name }))

-- What a load line is to one who wants the samples of the file of a name.
abbrev pub load_for : List ℕ → LoadLine → Load
load_for name line =
    record { start = line.start; len = line.len; offset = line.offset; is_wanted = bytes_eq line.name name }

-- The load that a line tells of, if it is a load line.
abbrev pub load_of : List ℕ → List ℕ → Option Load
load_of name line = option_map (load_for name) (load_line_of line)

-- The loads that these lines tell of.
abbrev pub loads_of : List ℕ → List (List ℕ) → List Load
loads_of name lines = filter_map (load_of name) lines
