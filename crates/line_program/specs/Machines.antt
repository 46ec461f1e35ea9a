-- What the machine of a program does.
use Rattle.std.specs.Prelude.{◌≡◌, ◌++◌, ℕ, true, false, List, [], ◌∷◌, Result, Ok, Err, ⊤}
use Rattle.refusal.specs.declared.kind.Kind.{Kind}
use Rattle.refusal.specs.declared.kind.Kind.TheVariants.{TooManyRows}
use Rattle.refusal.specs.declared.place.ItemStop.{ItemStop}
use Rattle.refusal.specs.declared.place.ItemStop.TheVariants.{Refused, NoMemory}
use Rattle.line_model.specs.declared.row.Row.{Row}
use Rattle.line_model.specs.Header.{Header}
use Rattle.line_model.specs.Reading.{OperationReading}
use Rattle.line_model.specs.Program.{Machine, is_full, machine_after}
use Rattle.line_program.specs.State.{State}

-- A row stands behind the others, or there are too many.
abbrev pub AddsRow : Result (Unit {0}) ItemStop → State → State → Row → Type 0
AddsRow (Ok done) old new row =
    (is_full old.before old.machine.rows ≡ false)
    × (new.machine ≡ record { registers = old.machine.registers; rows = old.machine.rows ++ row ∷ [] })
AddsRow (Err (Refused kind)) old new row = (is_full old.before old.machine.rows ≡ true) × (kind ≡ TooManyRows)
AddsRow (Err NoMemory) old new row = ⊤

-- A machine, and the bytes that are left.
abbrev pub beside : List ℕ → Result Machine Kind → Result (Machine × List ℕ) Kind
beside rest (Ok machine) = Ok (machine, rest)
beside rest (Err kind) = Err kind

-- The machine behind an operation that was read, and the bytes behind it; or why it is refused.
abbrev pub behind_read : Header → ℕ → Machine → OperationReading → Result (Machine × List ℕ) Kind
behind_read header before machine (Ok (operation, rest)) =
    beside rest (machine_after header before machine (Ok operation))
behind_read header before machine (Err kind) = Err kind

-- The machine and the bytes that are left behind an operation, or why it is refused.
abbrev pub GivesNext : Result (Unit {0}) ItemStop → State → List ℕ → Result (Machine × List ℕ) Kind → Type 0
GivesNext (Ok done) new left read = read ≡ Ok (new.machine, left)
GivesNext (Err (Refused kind)) new left read = read ≡ Err kind
GivesNext (Err NoMemory) new left read = ⊤
