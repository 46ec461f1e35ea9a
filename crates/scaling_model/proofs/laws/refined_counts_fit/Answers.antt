use Rattle.scaling_model.proofs.RefineLemmas.{refined_counts_fit}
use Rattle.scaling_model.proofs.laws.refined_counts_fit.Goals as goal

pub returns : goal.returns
returns c = refined_counts_fit
