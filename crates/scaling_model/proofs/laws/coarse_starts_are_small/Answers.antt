use Rattle.scaling_model.proofs.HalvedLemmas.{coarse_starts_are_small}
use Rattle.scaling_model.proofs.laws.coarse_starts_are_small.Goals as goal

pub returns : goal.returns
returns c = coarse_starts_are_small
