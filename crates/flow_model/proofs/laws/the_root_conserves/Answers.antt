use Rattle.flow_model.proofs.LawLemmas.{the_root_conserves}
use Rattle.flow_model.proofs.laws.the_root_conserves.Goals as goal

pub returns : goal.returns
returns c = the_root_conserves
