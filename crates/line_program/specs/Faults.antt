-- What the reading of an operation gives.
use Rattle.std.specs.Prelude.{◌≡◌, ℕ, List, Result, Ok, Err}
use Rattle.line_model.specs.declared.operation.Operation.{Operation}
use Rattle.line_model.specs.Reading.{OperationReading}
use Rattle.line_program.specs.declared.fault.Fault.{Fault}

-- The operation that is read, and what is then left; or why there is none.
abbrev pub GivesOperation : Result Operation Fault → List ℕ → OperationReading → Type 0
GivesOperation (Ok operation) left reading = reading ≡ Ok (operation, left)
GivesOperation (Err fault) left reading = reading ≡ Err fault.kind
