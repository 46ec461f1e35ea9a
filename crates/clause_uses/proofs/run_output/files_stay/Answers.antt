use Rattle.clause_uses.proofs.RunLemmas.{same-file}
use Rattle.clause_uses.proofs.run_output.files_stay.Goals as goal

pub returns : goal.returns
returns c = same-file c.run.ensures.store
