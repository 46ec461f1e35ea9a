-- The units of `.debug_info` with their entries (DWARF 5, section 7.5.1).
use Rattle.std.specs.Prelude.{ℕ, ◌+◌, ◌-◌, Bool, ◌==◌, if◌then◌else◌, List, [], ◌∷◌, ◌++◌, length, Option, None, Some}
use Rattle.byte_view.specs.Cursor.{Cursor}
use Rattle.placed_view.specs.Reader.{Reader, ◌>>=◌, gives, place, within, elsewhere}
use Rattle.placed_view.specs.Steps.{while_left}
use Rattle.unit_model.specs.Table.{table}
use Rattle.unit_model.specs.Header.{Header, header, unit_length}
use Rattle.unit_model.specs.Entries.{Entry, entries}

-- A unit that is read: where it begins and ends in the file, its version, whether it is 64-bit DWARF, and which of the
-- entries are its own: so many from a number on.
pub record Unit : Type 0 where
  pub at : ℕ
  pub end : ℕ
  pub version : ℕ
  pub wide : Bool
  pub first : ℕ
  pub count : ℕ

-- The units that are read, the entries of all of them, and where each unit that is passed over begins and ends.
pub record Units : Type 0 where
  pub units : List Unit
  pub entries : List Entry
  pub skipped : List (ℕ × ℕ)

-- No unit yet.
abbrev pub no_units : Units
no_units = record { units = []; entries = []; skipped = [] }

-- Where a unit stands in the file, and whether it is 64-bit DWARF.
pub record Extent : Type 0 where
  pub at : ℕ
  pub end : ℕ
  pub wide : Bool

-- A unit more that is passed over.
abbrev pub with_skipped : Extent → Units → Units
with_skipped extent before = record {
  units = before.units;
  entries = before.entries;
  skipped = before.skipped ++ (extent.at, extent.end) ∷ [];
}

-- A unit more that is read. The entries are those of the units before it, and its own behind them.
abbrev pub with_unit : Extent → ℕ → List Entry → Units → Units
with_unit extent version all before = record {
  units = before.units
      ++ record {
        at = extent.at;
        end = extent.end;
        version = version;
        wide = extent.wide;
        first = length before.entries;
        count = length all - length before.entries;
      }
      ∷ [];
  entries = all;
  skipped = before.skipped;
}

-- What stands behind a unit's header: its entries, with the abbreviations read before them.
abbrev pub unit_behind : Extent → Option Header → Units → Reader Units
unit_behind extent None before = gives (with_skipped extent before)
unit_behind extent (Some head) before = do
  list ← elsewhere head.abbrevs table
  all ← entries (record { unit = length before.units; wide = extent.wide }) list before.entries
  gives (with_unit extent head.version all before)

-- A unit that has bytes behind its length.
abbrev pub some_unit : Option Cursor → Extent → Units → Reader Units
some_unit section extent before = do
  head ← header extent.wide section
  unit_behind extent head before

-- A unit, from behind its length to its end. One of length 0 is passed over.
unfoldable pub unit_body : Option Cursor → Extent → ℕ → Units → Reader Units
unit_body section extent size before =
    if size == 0 then gives (with_skipped extent before) else some_unit section extent before

-- The next unit. `section` is where the abbreviations are.
unfoldable pub next_unit : Option Cursor → Units → Reader Units
next_unit section before = do
  at ← place
  (wide, size) ← unit_length
  start ← place
  within size (unit_body section (record { at = at; end = start + size; wide = wide }) size before)

-- The units of `.debug_info`, which are judged one behind the other.
unfoldable pub units : Option Cursor → Reader Units
units section = while_left (next_unit section) no_units
