-- Places in the tables of opcodes.
use Rattle.std.specs.Prelude.{ℕ, List, map, Option, slice_get}
use Rattle.std.specs.Option.{option_and_then}
use Rattle.line_model.specs.Opcodes.{Operand}

-- What a table has at a place, if there is one.
abbrev pub operand_in : List (ℕ × Operand) → Option ℕ → Option Operand
operand_in table place = option_and_then (slice_get (map (λ line. line.1) table)) place
