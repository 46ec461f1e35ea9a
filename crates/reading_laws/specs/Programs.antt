-- The rows of the line programs of a file, unit by unit.
use Rattle.std.specs.Prelude.{◌≡◌, ◌<◌, ℕ, List, length, take, slice_get, Option, Some, Ok, Err}
use Rattle.refusal.specs.declared.place.Place.{Place}
use Rattle.byte_view.specs.Cursor.{Cursor}
use Rattle.unit_model.specs.Units.{Units}
use Rattle.line_model.specs.declared.row.Row.{Row}
use Rattle.line_model.specs.Program.{rows_at}
use Rattle.binary_model.specs.LinePrograms.{row_count, rows_of_unit, rows_of_units}

-- The rows of a program are its own, however many stand before them.
abbrev pub RowsAreOfTheirProgram : Type 0
RowsAreOfTheirProgram =
    (before : ℕ) (start_of : Cursor) (rows : List Row)
    → rows_at before start_of ≡ Ok rows → rows_at 0 start_of ≡ Ok rows

-- The rows of the first units, each with those of its own program, which is read once and where the rows of the units
-- before it stand.
abbrev pub AreOfFirstUnits : Option Cursor → Units → List (Option (List Row)) → Type 0
AreOfFirstUnits section told lists =
    (i : ℕ) (rows : Option (List Row)) → slice_get lists i ≡ Some rows
    → rows_of_unit section told i (row_count (take i lists)) ≡ Ok rows

-- The rows of a file are those of each of its units, in their order.
abbrev pub RowsAreByUnit : Type 0
RowsAreByUnit =
    (section : Option Cursor) (told : Units) (lists : List (Option (List Row)))
    → rows_of_units section told ≡ Ok lists → (length lists ≡ length told.units) × AreOfFirstUnits section told lists

-- Rows of each unit are the rows of the file.
abbrev pub RowsByUnitAreRead : Type 0
RowsByUnitAreRead =
    (section : Option Cursor) (told : Units) (lists : List (Option (List Row)))
    → length lists ≡ length told.units → AreOfFirstUnits section told lists → rows_of_units section told ≡ Ok lists

-- A file is refused where the program of one of its units is, the first one that is.
abbrev pub ProgramsAreRefusedInOrder : Type 0
ProgramsAreRefusedInOrder =
    (section : Option Cursor) (told : Units) (place : Place) → rows_of_units section told ≡ Err place
    → (lists : List (Option (List Row))) × (length lists < length told.units) × AreOfFirstUnits section told lists
    × (rows_of_unit section told (length lists) (row_count lists) ≡ Err place)
