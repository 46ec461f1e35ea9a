-- The units of `.debug_info`, by where they stand.
use Rattle.std.specs.Prelude.{◌≡◌, ◌<◌, ℕ, ◌+◌, Bool, ◌&&◌, nat_le, nat_lt, if◌then◌else◌, List, [], ◌∷◌, ◌++◌, count_by, length, map, Option, None, Some, Ok}
use Rattle.std.specs.List.{filter_map}
use Rattle.byte_view.specs.Cursor.{Cursor}
use Rattle.unit_model.specs.Units.{Unit as UnitRead, Units, units}

-- A unit that is read, or one that is passed over, which goes from a place up to another.
pub data Part : Type 0 where
  read : UnitRead → Part
  passed : ℕ × ℕ → Part

-- Where a unit begins and ends.
abbrev pub span_of : Part → ℕ × ℕ
span_of (read unit) = (unit.at, unit.end)
span_of (passed span) = span

-- The unit, where it is read; its place, where it is passed over.
abbrev pub unit_of : Part → Option UnitRead
unit_of (read unit) = Some unit
unit_of (passed span) = None

abbrev pub passed_of : Part → Option (ℕ × ℕ)
passed_of (read unit) = None
passed_of (passed span) = Some span

-- Units stand one behind the other from a place up to another: each begins where the one before ends.
abbrev pub Follow : ℕ → List Part → ℕ → Type 0
Follow from [] to = from ≡ to
Follow from (part ∷ rest) to =
    ((span_of part).0 ≡ from) × (from < (span_of part).1) × Follow (span_of part).1 rest to

-- The units that are read and those that are passed over fill the section from its start to its end.
abbrev pub UnitsFillSections : Type 0
UnitsFillSections =
    (abbrevs : Option Cursor) (section new : Cursor) (told : Units) → units abbrevs section ≡ Ok (told, new)
    → (parts : List Part) × Follow section.at parts (section.at + length section.left)
    × (told.units ≡ filter_map unit_of parts) × (told.skipped ≡ filter_map passed_of parts)

-- A place is one of those from a first one up to another.
abbrev pub has : ℕ → ℕ × ℕ → Bool
has at (from, to) = nat_le from at && nat_lt at to

-- Where the units begin and end, those that are read and those that are passed over.
abbrev pub spans_of : Units → List (ℕ × ℕ)
spans_of told = map (λ unit. (unit.at, unit.end)) told.units ++ told.skipped

-- Each byte of the section is of one unit, and no unit has another byte.
abbrev pub BytesHaveOneUnit : Type 0
BytesHaveOneUnit =
    (abbrevs : Option Cursor) (section new : Cursor) (told : Units) (at : ℕ)
    → units abbrevs section ≡ Ok (told, new)
    → count_by (has at) (spans_of told) ≡ (if has at (section.at, section.at + length section.left) then 1 else 0)
