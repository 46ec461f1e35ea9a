-- Tables of abbreviations that are kept.
use Rattle.std.specs.Prelude.{◌≡◌, ℕ, ◌+◌, ◌-◌, ◌^◌, List, [], length, min, sum_by, Option, None, Some, ⊤}
use Rattle.std.specs.Ordering.{nat_cmp}
use Rattle.std.specs.BTreeMap.{BTreeMap, get}
use Rattle.byte_view.specs.Cursor.{Cursor}
use Rattle.placed_view.specs.Reader.{IsRead, cursor_behind}
use Rattle.unit_model.specs.Abbrev.{Abbrev}
use Rattle.unit_model.specs.Table.{table}
use Rattle.unit_model.specs.Header.{Header}

-- The bytes of a section from an offset in the file on.
abbrev pub from_offset : Option Cursor → ℕ → Cursor
from_offset None at = record { at = at; left = [] }
from_offset (Some section) at = cursor_behind (at - section.at) section

-- A table is what is read at an offset in the file.
abbrev pub IsTableAt : Option Cursor → ℕ → List Abbrev → Type 0
IsTableAt section at list = IsRead (table (from_offset section at)) list

-- The room that a table takes, within 64 bits: one for its end, and for each abbreviation one and one for each of its
-- attributes.
abbrev pub room_of : List Abbrev → ℕ
room_of list = min (1 + sum_by (λ kind. 1 + length kind.attrs) list) (2 ^ 64 - 1)

-- Each table that is kept for an offset is the one that is read there.
pub record HoldsTables (section : Option Cursor) (kept : BTreeMap ℕ (List Abbrev)) : Type 0 where
  pub each : (at : ℕ) (list : List Abbrev) → get nat_cmp kept at ≡ Some list → IsTableAt section at list

-- The abbreviations of a header stand in this section, at their offset in the file.
abbrev pub StandsIn : Option Cursor → Option Header → Type 0
StandsIn section None = ⊤
StandsIn section (Some head) = head.abbrevs ≡ from_offset section head.abbrevs.at
