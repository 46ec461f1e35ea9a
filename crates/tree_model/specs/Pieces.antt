-- The ranges that an entry spells, and its pieces: those of them that are code of the file.
use Rattle.std.specs.Prelude.{ℕ, ◌+◌, ◌^◌, nat_lt, if◌then◌else◌, List, [], filter, length, Option, None, Some, Result, Ok, Err}
use Rattle.refusal.specs.declared.kind.Kind.TheVariants.{TooManyRanges}
use Rattle.refusal.specs.declared.place.Place.{Place}
use Rattle.refusal.specs.Place.{in_binary}
use Rattle.value_model.specs.Value.{Value, const}
use Rattle.range_model.specs.Texts.{Bases}
use Rattle.range_model.specs.Lists.{RangeSections, bad_range, proper, ranges_of, sum_of}
use Rattle.unit_model.specs.Constants.{DW_AT_high_pc, DW_AT_low_pc, DW_AT_ranges}
use Rattle.unit_model.specs.Values.{Found}
use Rattle.unit_model.specs.Entries.{Entry}
use Rattle.elf_model.specs.Segments.{is_live}
use Rattle.tree_model.specs.Bases.{address_at, attribute}

-- What the ranges of a unit's entries are read by: the sections, the unit's version, its base address, and what its
-- indexes count from.
pub record InUnit : Type 0 where
  pub sections : RangeSections
  pub version : ℕ
  pub base : ℕ
  pub bases : Bases

-- Ranges of addresses, or the first place that stands in the way of them.
abbrev pub RangesOrPlace : Type 0
RangesOrPlace = Result (List (ℕ × ℕ)) Place

-- What is there, unless there is a bad place.
abbrev pub unless : {X : Type 0} → Option Place → X → Result X Place
unless None x = Ok x
unless (Some place) x = Err place

-- What follows on what is there, unless there was a bad place.
abbrev pub and_then : {X Y : Type 0} → Result X Place → (X → Result Y Place) → Result Y Place
and_then (Ok x) next = next x
and_then (Err place) next = Err place

-- The ranges of the list that DW_AT_ranges leads to.
abbrev pub listed : InUnit → Found → RangesOrPlace
listed of found =
    unless (bad_range found.at of.version of.sections of.bases found.value)
    (ranges_of of.version of.base of.sections of.bases found.value)

-- The address of an attribute.
abbrev pub address_of_found : InUnit → Found → Result ℕ Place
address_of_found of found = address_at of.sections.texts of.bases found

-- DWARF 5, section 2.17.2: where DW_AT_high_pc is a constant, it is the size of the range.
abbrev pub end_by : InUnit → ℕ → Found → Value → Result ℕ Place
end_by of start high (const size) = Ok (sum_of start size)
end_by of start high other = address_of_found of high

-- The range from DW_AT_low_pc, which is resolved first, up to DW_AT_high_pc. It is none where its end is not above its
-- start.
abbrev pub pair : InUnit → Found → Found → RangesOrPlace
pair of low high =
    and_then (address_of_found of low)
    (λ start. and_then (end_by of start high high.value) (λ end. Ok (proper start end)))

-- The ranges by DW_AT_ranges where it stands, else by DW_AT_low_pc and DW_AT_high_pc where both do, else none.
abbrev pub spelled_by : InUnit → Option Found → Option Found → Option Found → RangesOrPlace
spelled_by of (Some ranges) low high = listed of ranges
spelled_by of None (Some low) (Some high) = pair of low high
spelled_by of None low high = Ok []

-- The ranges that an entry spells (DWARF 5, section 2.17).
unfoldable pub spelled_ranges : InUnit → Entry → RangesOrPlace
spelled_ranges of entry =
    spelled_by of (attribute DW_AT_ranges entry.found) (attribute DW_AT_low_pc entry.found)
    (attribute DW_AT_high_pc entry.found)

-- Those of some ranges that are code of the file.
abbrev pub live_ranges : List ℕ → List (ℕ × ℕ) → List (ℕ × ℕ)
live_ranges file ranges = filter (λ range. is_live file range.0 range.1) ranges

-- The most pieces of a file.
abbrev pub max_pieces : ℕ
max_pieces = 2 ^ 26

-- Pieces behind so many others of the file, unless they are too many with an entry that stands at a place.
abbrev pub within_limit : ℕ → ℕ → List (ℕ × ℕ) → RangesOrPlace
within_limit at before pieces =
    if nat_lt max_pieces (before + length pieces) then Err (in_binary at TooManyRanges) else Ok pieces

-- The pieces of an entry, behind so many others of the file: those of its ranges that are live, in their order.
unfoldable pub pieces : List ℕ → InUnit → ℕ → Entry → RangesOrPlace
pieces file of before entry =
    and_then (spelled_ranges of entry) (λ ranges. within_limit entry.at before (live_ranges file ranges))
