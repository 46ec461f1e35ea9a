use Rattle.asked_laws.proofs.LiftLemmas.{lifts_ask_no_more}
use Rattle.asked_laws.proofs.laws.lifts_ask_no_more.Goals as goal

pub returns : goal.returns
returns c = lifts_ask_no_more
