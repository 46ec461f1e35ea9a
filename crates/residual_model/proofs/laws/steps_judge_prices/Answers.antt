use Rattle.residual_model.proofs.StepLemmas.{steps_judge_prices}
use Rattle.residual_model.proofs.laws.steps_judge_prices.Goals as goal

pub returns : goal.returns
returns c = steps_judge_prices
