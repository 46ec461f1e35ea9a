-- The tables of rows that the code has made.
use Rattle.std.specs.Prelude.{◌≡◌, ℕ, ◌≤◌, ◌<◌, List, map, length, Option, None, Some, Ok}
use Rattle.std.specs.Option.{option_map}
use Rattle.byte_view.specs.declared.part.Part.{Part}
use Rattle.byte_view.specs.Cursor.{Cursor}
use Rattle.placed_view.specs.Reader.{cursor_behind, start_of}
use Rattle.line_model.specs.declared.row.Row.{Row}
use Rattle.line_model.specs.Fields.{Judged, ◌>>=◌}
use Rattle.line_model.specs.Rows.{Sequence, live_sequences}
use Rattle.unit_model.specs.Units.{Units}
use Rattle.binary_model.specs.LinePrograms.{rows_from, rows_of_unit}
use Rattle.binary_places.specs.declared.programs.NamedProgram.{NamedProgram}

-- The rest of a section from an offset on; none exactly past the section's end.
abbrev pub IsRest : Cursor → ℕ → Option Part → Type 0
IsRest section offset None = length section.left < offset
IsRest section offset (Some rest) = (offset ≤ length section.left) × (start_of rest ≡ cursor_behind offset section)

-- The rows of the program that a unit names, if it names one, where so many rows stand before.
abbrev pub rows_named : ℕ → Option Cursor → Option NamedProgram → Judged (Option (List Row))
rows_named before section None = Ok None
rows_named before section (Some program) =
    rows_from before section program.at program.offset >>= λ rows. Ok (Some rows)

-- The unit of an index among the units names this program, or none.
abbrev pub IsNamed : Units → ℕ → Option NamedProgram → Type 0
IsNamed told index named =
    (section : Option Cursor) (before : ℕ) → rows_of_unit section told index before ≡ rows_named before section named

-- Tables of the live sequences of some units' rows.
abbrev pub AreTablesOf : List ℕ → List (Option (List Row)) → List (Option (List Sequence)) → Type 0
AreTablesOf file units tables = tables ≡ map (option_map (live_sequences file)) units

-- The tables are those of the rows that are told.
abbrev pub AreTables : List ℕ → Judged (List (Option (List Row))) → List (Option (List Sequence)) → Type 0
AreTables file told tables = (units : List (Option (List Row))) × (told ≡ Ok units) × AreTablesOf file units tables
