use Rattle.scaling_model.proofs.HalvedLemmas.{coarse_cuts_are_cuts}
use Rattle.scaling_model.proofs.laws.coarse_cuts_are_cuts.Goals as goal

pub returns : goal.returns
returns c = coarse_cuts_are_cuts
