-- Tables of abbreviations that are tails of others.
use Rattle.std.specs.Prelude.{◌≡◌, ℕ, List, drop, Option, Some}
use Rattle.std.specs.Ordering.{nat_cmp}
use Rattle.std.specs.BTreeMap.{BTreeMap, get}
use Rattle.byte_view.specs.Cursor.{Cursor}
use Rattle.unit_model.specs.Abbrev.{Abbrev}
use Rattle.dwarf_info.specs.Tables.{IsTableAt}
use Rattle.dwarf_info.specs.declared.tables.Within.{Within}
use Rattle.dwarf_info.specs.declared.tables.Table.{Table}

-- The table at an offset in the file is that of another one behind its first abbreviations.
abbrev pub IsBehind : Option Cursor → Within → ℕ → Type 0
IsBehind section within at =
    (list : List Abbrev) → IsTableAt section within.home list → IsTableAt section at (drop within.skip list)

-- Each tail that is noted is one.
pub record HoldsTails (section : Option Cursor) (tails : BTreeMap ℕ Within) : Type 0 where
  pub each : (at : ℕ) (within : Within) → get nat_cmp tails at ≡ Some within → IsBehind section within at

-- The abbreviations of a table.
abbrev pub list_of : Table → List Abbrev
list_of table = drop table.within.skip table.kinds

-- The table at an offset in the file, with the one that it is a tail of.
pub record IsTail (section : Option Cursor) (at : ℕ) (table : Table) : Type 0 where
  pub home : IsTableAt section table.within.home table.kinds
  pub here : IsTableAt section at (list_of table)
