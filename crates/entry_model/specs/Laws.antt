-- What holds of readings and spellings.
use Rattle.std.specs.Prelude.{◌≡◌, ◌≤◌, ℕ, ◌+◌, List, ◌++◌, length, sum_by, Option, Ok}
use Rattle.byte_view.specs.Cursor.{Cursor}
use Rattle.unit_model.specs.Abbrev.{Abbrev}
use Rattle.unit_model.specs.Table.{table}
use Rattle.unit_model.specs.Entries.{Entry, InUnit, entries, max_entries}
use Rattle.unit_model.specs.Units.{Units, units}
use Rattle.entry_model.specs.Entries.{SpellsEntries, AreShallow}
use Rattle.entry_model.specs.Order.{AreInOrder}
use Rattle.entry_model.specs.Tables.{SpellsTable, IsTable}

-- What is read as a table is spelled so.
abbrev pub ReadTablesAreSpelled : Type 0
ReadTablesAreSpelled =
    (old new : Cursor) (kinds : List Abbrev) → table old ≡ Ok (kinds, new) → SpellsTable old new kinds × IsTable kinds

-- What spells a table is read as this table.
abbrev pub SpelledTablesAreRead : Type 0
SpelledTablesAreRead =
    (old new : Cursor) (kinds : List Abbrev) → SpellsTable old new kinds → IsTable kinds → table old ≡ Ok (kinds, new)

-- What is read as entries is spelled so.
abbrev pub ReadEntriesAreSpelled : Type 0
ReadEntriesAreSpelled =
    (of : InUnit) (kinds : List Abbrev) (before all : List Entry) (old new : Cursor) → length before ≤ max_entries
    → entries of kinds before old ≡ Ok (all, new)
    → (own : List Entry) × SpellsEntries of kinds 0 old new own × AreShallow own × (all ≡ before ++ own)
    × (length all ≤ max_entries)

-- What spells entries is read as these.
abbrev pub SpelledEntriesAreRead : Type 0
SpelledEntriesAreRead =
    (of : InUnit) (kinds : List Abbrev) (before own : List Entry) (old new : Cursor)
    → SpellsEntries of kinds 0 old new own → AreShallow own → length before + length own ≤ max_entries
    → entries of kinds before old ≡ Ok (before ++ own, new)

-- The entries of all units stand in the order of the file.
abbrev pub EntriesStandInOrder : Type 0
EntriesStandInOrder =
    (section : Option Cursor) (old new : Cursor) (told : Units) → units section old ≡ Ok (told, new)
    → AreInOrder old.at (old.at + length old.left) told.entries

-- Each entry is of one unit: the units' own are as many as there are. A file has no more than it can have.
abbrev pub UnitsShareEntries : Type 0
UnitsShareEntries =
    (section : Option Cursor) (old new : Cursor) (told : Units) → units section old ≡ Ok (told, new)
    → (sum_by (λ unit. unit.count) told.units ≡ length told.entries) × (length told.entries ≤ max_entries)
