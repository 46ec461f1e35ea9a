use Rattle.asked_laws.proofs.BuildLemmas.{summaries_ask_no_more}
use Rattle.asked_laws.proofs.laws.summaries_ask_no_more.Goals as goal

pub returns : goal.returns
returns c = summaries_ask_no_more
