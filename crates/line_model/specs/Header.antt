-- What the header of a program says to its operations.
use Rattle.std.specs.Prelude.{ℕ, ℤ, List}

-- Fields of the header (DWARF 5, section 6.2.4). The lengths are those of the opcodes from 1 on: how many operands
-- an opcode has that is not known.
pub record Header : Type 0 where
  pub min_inst_length : ℕ
  pub line_base : ℤ
  pub line_range : ℕ
  pub opcode_base : ℕ
  pub opcode_lengths : List ℕ
