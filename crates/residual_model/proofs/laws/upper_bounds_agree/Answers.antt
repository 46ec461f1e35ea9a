use Rattle.residual_model.proofs.BoundLemmas.{upper_bounds_agree}
use Rattle.residual_model.proofs.laws.upper_bounds_agree.Goals as goal

pub returns : goal.returns
returns c = upper_bounds_agree
