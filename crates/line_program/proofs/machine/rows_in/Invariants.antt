use Rattle.std.proofs.Common.{◌≡◌, length}
use Rattle.line_model.specs.Program.{rows_in}
use Rattle.line_program.proofs.RowLemmas.{RowsLeft}
use Rattle.line_program.proofs.machine.rows_in.Given as goal

abbrev pub invariant-loop-header : goal.invariant-loop-header
invariant-loop-header l = record {
  before : l.machine.before ≡ l.fn.before;
  left : RowsLeft l.header l.fn.before l.end (rows_in l.fn.before (record { header = l.header; opcodes = l.fn.program.opcodes })) l.machine.machine l.opcodes.left;
}

abbrev pub decreases-loop-header : goal.decreases-loop-header
decreases-loop-header l = length l.opcodes.left
