use Rattle.residual_model.proofs.PushLemmas.{starting_counts_fit}
use Rattle.residual_model.proofs.laws.starting_counts_fit.Goals as goal

pub returns : goal.returns
returns c = starting_counts_fit
