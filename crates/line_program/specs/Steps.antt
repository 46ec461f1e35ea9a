-- What an operation does.
use Rattle.std.specs.Prelude.{◌≡◌, Option, None, Some, Result, Ok, Err}
use Rattle.refusal.specs.declared.kind.Kind.TheVariants.{LineOverflow}
use Rattle.line_model.specs.declared.row.Row.{Row}
use Rattle.line_model.specs.Registers.{Registers, Step}
use Rattle.line_program.specs.declared.fault.Fault.{Fault}

-- The registers behind a move, or the line leaves its numbers.
abbrev pub GivesMoved : Result (Unit {0}) Fault → Registers → Option Registers → Type 0
GivesMoved (Ok done) new moved = moved ≡ Some new
GivesMoved (Err fault) new moved = (moved ≡ None) × (fault.kind ≡ LineOverflow)

-- The row of an operation and the registers behind it, or the line leaves its numbers.
abbrev pub GivesStep : Result (Option Row) Fault → Registers → Option Step → Type 0
GivesStep (Ok row) new step = step ≡ Some (record { row = row; registers = new })
GivesStep (Err fault) new step = (step ≡ None) × (fault.kind ≡ LineOverflow)
