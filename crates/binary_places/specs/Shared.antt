-- The rows of line programs that several units name, each read for the first of them.
use Rattle.std.specs.Prelude.{◌≡◌, ◌≢◌, ℕ, Bool, true, false, ◌≤◌, ◌<◌, ◌+◌, List, length, Option, None, Some, Result, Ok, Err, ⊤}
use Rattle.std.specs.List.{slice_get}
use Rattle.std.specs.Ordering.{nat_cmp}
use Rattle.std.specs.BTreeMap.{BTreeMap, get}
use Rattle.refusal.specs.declared.place.Stop.{Stop}
use Rattle.refusal.specs.declared.place.Stop.TheVariants.{Refused, NoMemory}
use Rattle.byte_view.specs.Cursor.{Cursor}
use Rattle.line_model.specs.Program.{max_rows_of_all}
use Rattle.line_model.specs.Rows.{Sequence, live_sequences}
use Rattle.binary_model.specs.LinePrograms.{rows_from}
use Rattle.binary_places.specs.declared.programs.NamedProgram.{NamedProgram}
use Rattle.binary_places.specs.declared.shared.Known.{Known}
use Rattle.binary_places.specs.declared.shared.UnitRows.{UnitRows}
use Rattle.binary_places.specs.declared.shared.UnitRows.TheVariants.{Absent, Read, Again}

-- How many rows a unit has.
abbrev pub count_of : UnitRows → ℕ
count_of Absent = 0
count_of (Read offset rows) = length rows.items
count_of (Again known) = known.rows

-- Whether so many rows are within the limit behind those before.
abbrev pub FitsBehind : ℕ → ℕ → Bool → Type 0
FitsBehind before rows true = before + rows ≤ max_rows_of_all
FitsBehind before rows false = max_rows_of_all < before + rows

-- The rows of a program are read, or it is known and its rows are within the limit; else it has a first bad place.
abbrev pub GivesProgramRows : Option Cursor → BTreeMap ℕ Known → ℕ → NamedProgram → Result UnitRows Stop → Type 0
GivesProgramRows section known before program (Ok Absent) = ⊥
GivesProgramRows section known before program (Ok (Read offset rows)) =
    (offset ≡ program.offset) × (rows_from before section program.at program.offset ≡ Ok rows.items)
GivesProgramRows section known before program (Ok (Again one)) =
    (get nat_cmp known program.offset ≡ Some one) × (before + one.rows ≤ max_rows_of_all)
GivesProgramRows section known before program (Err (Refused place)) =
    rows_from before section program.at program.offset ≡ Err place
GivesProgramRows section known before program (Err NoMemory) = ⊤

-- The rows of the program that a unit names, if it names one.
abbrev pub GivesUnitRows : Option Cursor → BTreeMap ℕ Known → ℕ → Option NamedProgram → Result UnitRows Stop → Type 0
GivesUnitRows section known before None result = result ≡ Ok Absent
GivesUnitRows section known before (Some program) result = GivesProgramRows section known before program result

-- A program that was read is known, with its unit and its number of rows; nothing else has changed.
abbrev pub Keeps : ℕ → UnitRows → BTreeMap ℕ Known → BTreeMap ℕ Known → Type 0
Keeps unit Absent old new = new ≡ old
Keeps unit (Read offset rows) old new =
    (get nat_cmp new offset ≡ Some (record { unit = unit; rows = length rows.items }))
    × ((other : ℕ) → offset ≢ other → get nat_cmp new other ≡ get nat_cmp old other)
Keeps unit (Again known) old new = new ≡ old

-- The unit before whose rows these are is one of so many.
abbrev pub HasTable : ℕ → UnitRows → Type 0
HasTable units Absent = ⊤
HasTable units (Read offset rows) = ⊤
HasTable units (Again known) = known.unit < units

-- The table of a unit: of the rows that were read, or that of the unit before.
abbrev pub IsTable : List ℕ → List (Option (List Sequence)) → UnitRows → Option (List Sequence) → Type 0
IsTable file tables Absent table = table ≡ None
IsTable file tables (Read offset rows) table = table ≡ Some (live_sequences file rows.items)
IsTable file tables (Again known) table = slice_get tables known.unit ≡ Some table
