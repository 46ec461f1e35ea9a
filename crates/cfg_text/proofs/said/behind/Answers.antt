use Rattle.cfg_text.proofs.SaidLemmas.{behind_some, behind_none}
use Rattle.cfg_text.proofs.said.behind.Goals as goal

pub returns-in-Some : goal.returns-in-Some
returns-in-Some c = behind_some c.args.front.now c.args.word.now _ c.in-Some.ensures.cases.0 c.in-Some.ensures.cases.1

pub returns-in-None : goal.returns-in-None
returns-in-None c = behind_none c.args.front.now c.args.word.now c.in-None.ensures.cases
