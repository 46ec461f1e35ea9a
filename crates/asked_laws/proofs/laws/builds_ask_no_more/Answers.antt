use Rattle.asked_laws.proofs.BuildLemmas.{builds_ask_no_more}
use Rattle.asked_laws.proofs.laws.builds_ask_no_more.Goals as goal

pub returns : goal.returns
returns c = builds_ask_no_more
