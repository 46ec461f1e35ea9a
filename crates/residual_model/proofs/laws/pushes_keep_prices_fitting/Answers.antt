use Rattle.residual_model.proofs.PushLemmas.{pushes_along_fit, pushes_against_fit}
use Rattle.residual_model.proofs.laws.pushes_keep_prices_fitting.Goals as goal

pub returns : goal.returns
returns c = record { along = pushes_along_fit; against = pushes_against_fit }
