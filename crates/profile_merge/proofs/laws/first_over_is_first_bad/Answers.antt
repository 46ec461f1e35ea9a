use Rattle.profile_merge.proofs.MergeLemmas.{first_over_is_first_bad}
use Rattle.profile_merge.proofs.laws.first_over_is_first_bad.Goals as goal

pub returns : goal.returns
returns c = first_over_is_first_bad
