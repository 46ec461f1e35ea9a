use Rattle.std.proofs.Common.{◌+◌, ◌-◌, ◌∙◌, arith}
use Rattle.line_program.proofs.RowLemmas.{RowsLeft-start, RowsLeft-next, GivesRows-stop}
use Rattle.line_program.proofs.machine.rows_in.Goals as goal

pub loop-header-init : goal.loop-header-init
loop-header-init c = record {
  before = c.new-machine.ensures.before;
  left = RowsLeft-start c.args.before (c.at.result + c.left.result) (record { header = c.args.program.header; opcodes = c.args.program.opcodes })
      c.new-machine.result.machine (omega (arith, c.at.ensures.place, c.left.ensures)) c.new-machine.ensures.start;
}

pub loop-header-preserved : goal.loop-header-preserved
loop-header-preserved c = record {
  before = c.in-Ok.ensures.before ∙ c.loop-header.invariant.before;
  left = RowsLeft-next _ _ _ _ _ _ _ _ c.loop-header.invariant.left (rw c.loop-header.invariant.before at c.in-Ok.ensures.exact) c.in-Ok.ensures.shorter;
}

pub returns-in-Err : goal.returns-in-Err
returns-in-Err c =
    GivesRows-stop _ _ _ _ _ _ _ _ c.in-Err.stop _ (c.at.result + c.left.result - c.left-in-loop-header-2.result)
    c.loop-header.invariant.left (omega arith) (rw c.loop-header.invariant.before at c.in-Err.ensures.exact) (omega arith) c.in_binary.ensures
