use Rattle.residual_model.proofs.LoadLemmas.{circulations_are_loads}
use Rattle.residual_model.proofs.laws.circulations_are_loads.Goals as goal

pub returns : goal.returns
returns c = circulations_are_loads
