use Rattle.line_program.proofs.RowLemmas.{GivesRows-program, judged_rows}
use Rattle.line_program.proofs.run.rows.Goals as goal

pub returns-clause-judged : goal.returns-clause-judged
returns-clause-judged c =
    judged_rows _ _ c.rows_in.result (GivesRows-program _ _ _ c.rows_in.result c.in_ok-program.ensures c.rows_in.ensures)
