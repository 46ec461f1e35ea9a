use Rattle.command_laws.proofs.AnswerLemmas.{built_is_accepted}
use Rattle.command_laws.proofs.laws.what_build_writes_is_accepted.Goals as goal

pub returns : goal.returns
returns c = built_is_accepted
