-- What contracts see of the machine of a program.
use Rattle.std.specs.Prelude.{ℕ}
use Rattle.line_model.specs.Program.{Machine}

-- The registers and the rows, and how many rows the programs before have.
pub record State : Type 0 where
  pub machine : Machine
  pub before : ℕ
