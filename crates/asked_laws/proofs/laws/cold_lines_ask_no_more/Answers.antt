use Rattle.asked_laws.proofs.ColdLemmas.{cold_lines_ask_no_more}
use Rattle.asked_laws.proofs.laws.cold_lines_ask_no_more.Goals as goal

pub returns : goal.returns
returns c = cold_lines_ask_no_more
