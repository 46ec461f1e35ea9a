-- The rows of a program, and the places at which its operations are refused.
use Rattle.std.specs.Prelude.{◌≡◌, ◌+◌, ◌-◌, ◌^◌, ℕ, zero, suc, Bool, false, not, ◌||◌, nat_le, if◌then◌else◌, List, [], ◌∷◌, ◌++◌, length, Option, None, Some, Result, Ok, Err, slice_get}
use Rattle.std.specs.List.{concat}
use Rattle.std.specs.Option.{option_map_or, option_to_list}
use Rattle.std.specs.Result.{result_err}
use Rattle.refusal.specs.declared.kind.Kind.{Kind}
use Rattle.refusal.specs.declared.kind.Kind.TheVariants.{LineOverflow, NoEnd, TooManyRows}
use Rattle.refusal.specs.declared.place.Place.{Place}
use Rattle.refusal.specs.Place.{in_binary}
use Rattle.byte_view.specs.Cursor.{Cursor}
use Rattle.line_model.specs.declared.row.Row.{Row}
use Rattle.line_model.specs.declared.operation.Operation.{Operation}
use Rattle.line_model.specs.Header.{Header}
use Rattle.line_model.specs.Registers.{Registers, Step, start, step_of}
use Rattle.line_model.specs.Spelling.{Operates}
use Rattle.line_model.specs.Reading.{OperationReading, operation_at}
use Rattle.line_model.specs.Fields.{Program, Judged, ◌>>=◌, unless, program_at}

-- Operations, each by its bytes, one behind the other: the rows that they add, from these registers to those.
abbrev pub Adds : Header → Registers → List (List ℕ) → List Row → Registers → Type 0
Adds header before [] rows after = (rows ≡ []) × (after ≡ before)
Adds header before (bytes ∷ operations) rows after =
    (step : Step) × (later : List Row) × Operates header before bytes step
    × Adds header step.registers operations later after × (rows ≡ option_to_list step.row ++ later)

-- The rows of a program are those of the operations whose bytes are the program, from its first opcode to its end.
pub record AreRows (program : Program) (rows : List Row) : Type 0 where
  pub operations : List (List ℕ)
  pub last : Registers
  pub bytes_are : concat operations ≡ program.opcodes.left
  pub added : Adds program.header start operations rows last

-- The rows of the program at a cursor over the rest of its section.
pub record AreRowsOf (start_of : Cursor) (rows : List Row) : Type 0 where
  pub program : Program
  pub read : program_at start_of ≡ Ok program
  pub rows_are : AreRows program rows

-- The most rows that are read of one program.
abbrev pub max_rows : ℕ
max_rows = 2 ^ 24

-- The most rows that are read of all programs of a file.
abbrev pub max_rows_of_all : ℕ
max_rows_of_all = 2 ^ 26

-- The registers, and the rows that were added up to here.
pub record Machine : Type 0 where
  pub registers : Registers
  pub rows : List Row

-- What stands at a place of a program: an operation, or why there is none.
pub record Placed : Type 0 where
  pub at : ℕ
  pub operation : Result Operation Kind

-- What stands first of so many bytes, and what stands behind it where that is an operation.
abbrev pub placed_first : ℕ → ℕ → (ℕ → List ℕ → List Placed) → OperationReading → List Placed
placed_first at size later (Ok (operation, rest)) =
    record { at = at; operation = Ok operation } ∷ later (at + (size - length rest)) rest
placed_first at size later (Err kind) = record { at = at; operation = Err kind } ∷ []

-- The operations that stand one behind the other in some bytes, up to the first that is none. There are not more of
-- them than bytes.
abbrev pub operations_in : Header → ℕ → ℕ → List ℕ → List Placed
operations_in header zero at bytes = []
operations_in header (suc more) at [] = []
operations_in header (suc more) at (byte ∷ bytes) =
    placed_first at (length (byte ∷ bytes)) (operations_in header more) (operation_at header (byte ∷ bytes))

-- The operations of a program.
abbrev pub operations_of : Program → List Placed
operations_of program =
    operations_in program.header (length program.opcodes.left) program.opcodes.at program.opcodes.left

-- No more rows are read, where so many were added in the programs before.
abbrev pub is_full : ℕ → List Row → Bool
is_full before rows = nat_le max_rows (length rows) || nat_le max_rows_of_all (before + length rows)

-- The machine with these registers, and with a row, if one is added.
abbrev pub with_added : ℕ → Machine → Registers → Option Row → Result Machine Kind
with_added before machine registers None = Ok (record { registers = registers; rows = machine.rows })
with_added before machine registers (Some row) =
    if is_full before machine.rows then Err TooManyRows
    else Ok (record { registers = registers; rows = machine.rows ++ row ∷ [] })

-- The machine behind what an operation comes to.
abbrev pub with_step : ℕ → Machine → Option Step → Result Machine Kind
with_step before machine None = Err LineOverflow
with_step before machine (Some step) = with_added before machine step.registers step.row

-- The machine behind an operation, or why that is refused.
abbrev pub machine_after : Header → ℕ → Machine → Result Operation Kind → Result Machine Kind
machine_after header before machine (Ok operation) =
    with_step before machine (step_of header machine.registers operation)
machine_after header before machine (Err kind) = Err kind

-- What is refused of an operation stands at its first byte.
abbrev pub at_place : {X : Type 0} → ℕ → Result X Kind → Judged X
at_place at (Ok x) = Ok x
at_place at (Err kind) = Err (in_binary at kind)

-- The machine behind what stands at a place.
abbrev pub machine_behind : Header → ℕ → Machine → Placed → Judged Machine
machine_behind header before machine placed =
    at_place placed.at (machine_after header before machine placed.operation)

-- Rows stand behind the last end of a sequence: the last row ends none.
abbrev pub is_open : List Row → Bool
is_open rows = option_map_or (λ row. not row.ends) (slice_get rows (length rows - 1)) false

-- The rows behind all operations, or the first place where one is refused, or where an end is wanted.
abbrev pub rows_behind : Header → ℕ → ℕ → Machine → List Placed → Judged (List Row)
rows_behind header before end machine [] = unless (is_open machine.rows) (in_binary end NoEnd) machine.rows
rows_behind header before end machine (placed ∷ more) =
    machine_behind header before machine placed >>= λ next. rows_behind header before end next more

-- The rows of a program, or the first bad place among its operations, where so many rows stand before.
unfoldable pub rows_in : ℕ → Program → Judged (List Row)
rows_in before program =
    rows_behind program.header before (program.opcodes.at + length program.opcodes.left)
    (record { registers = start; rows = [] }) (operations_of program)

-- The rows of the program at a cursor over the rest of its section, or the first bad place.
unfoldable pub rows_at : ℕ → Cursor → Judged (List Row)
rows_at before start_of = program_at start_of >>= rows_in before

-- The first bad place of the program, if it has one.
abbrev pub first_bad_of : ℕ → Cursor → Option Place
first_bad_of before start_of = result_err (rows_at before start_of)
