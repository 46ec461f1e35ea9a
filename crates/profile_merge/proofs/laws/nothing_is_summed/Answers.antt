use Rattle.profile_merge.proofs.MergeLemmas.{nothing_is_summed}
use Rattle.profile_merge.proofs.laws.nothing_is_summed.Goals as goal

pub returns : goal.returns
returns c = nothing_is_summed
