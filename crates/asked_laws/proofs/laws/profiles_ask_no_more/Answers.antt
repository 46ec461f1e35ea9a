use Rattle.asked_laws.proofs.ReportLemmas.{profiles_ask_no_more}
use Rattle.asked_laws.proofs.laws.profiles_ask_no_more.Goals as goal

pub returns : goal.returns
returns c = profiles_ask_no_more
