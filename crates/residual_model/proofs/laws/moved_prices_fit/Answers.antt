use Rattle.residual_model.proofs.StepLemmas.{moved_prices_fit}
use Rattle.residual_model.proofs.laws.moved_prices_fit.Goals as goal

pub returns : goal.returns
returns c = moved_prices_fit
