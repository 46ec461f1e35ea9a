use Rattle.scaling_model.proofs.HalvedLemmas.{coarse_nets_are_nets}
use Rattle.scaling_model.proofs.laws.coarse_nets_are_nets.Goals as goal

pub returns : goal.returns
returns c = coarse_nets_are_nets
