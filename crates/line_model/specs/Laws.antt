-- What follows from the definitions.
use Rattle.std.specs.Prelude.{◌≡◌, ◌≤◌, ◌+◌, ℕ, false, List, ◌++◌, length, Ok}
use Rattle.byte_view.specs.Cursor.{Cursor}
use Rattle.byte_view.specs.Laws.{BeginsWith}
use Rattle.line_model.specs.declared.row.Row.{Row}
use Rattle.line_model.specs.declared.operation.Operation.{Operation}
use Rattle.line_model.specs.Header.{Header}
use Rattle.line_model.specs.Spelling.{Spells}
use Rattle.line_model.specs.Reading.{operation_at}
use Rattle.line_model.specs.Program.{AreRowsOf, max_rows, max_rows_of_all, is_open, rows_at}

-- What spells an operation is read as this operation, whatever follows it.
abbrev pub SpelledIsRead : Type 0
SpelledIsRead =
    (header : Header) (bytes rest : List ℕ) (operation : Operation) → Spells header bytes operation
    → operation_at header (bytes ++ rest) ≡ Ok (operation, rest)

-- What is read as an operation begins with a spelling of it.
abbrev pub ReadIsSpelled : Type 0
ReadIsSpelled =
    (header : Header) (bytes rest : List ℕ) (operation : Operation) → operation_at header bytes ≡ Ok (operation, rest)
    → BeginsWith (Spells header) bytes operation rest

-- The rows that are read of a program are those of its operations.
abbrev pub ReadRowsAreRows : Type 0
ReadRowsAreRows =
    (before : ℕ) (start_of : Cursor) (rows : List Row) → rows_at before start_of ≡ Ok rows → AreRowsOf start_of rows

-- The rows of a program's operations are read, where the last sequence is ended and there are not too many.
abbrev pub RowsAreRead : Type 0
RowsAreRead =
    (before : ℕ) (start_of : Cursor) (rows : List Row) → AreRowsOf start_of rows → is_open rows ≡ false
    → length rows ≤ max_rows → before + length rows ≤ max_rows_of_all → rows_at before start_of ≡ Ok rows
