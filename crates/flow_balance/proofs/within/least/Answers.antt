use Rattle.flow_balance.proofs.AnswerLemmas.{least_found}
use Rattle.flow_balance.proofs.within.least.Goals as goal

pub returns : goal.returns
returns c = least_found _ _ _ _ _ _ c.requires.1 c.in_ok-flow.ensures c.in_ok-told.ensures
