use Rattle.clause_uses.proofs.RunLemmas.{first-part}
use Rattle.clause_uses.proofs.run_output.a_cut_off_output_is_a_first_part.Goals as goal

pub returns-clause-part : goal.returns-clause-part
returns-clause-part c command contents is due = first-part _ command contents _ _ due (c.run.ensures.cut_off is)
