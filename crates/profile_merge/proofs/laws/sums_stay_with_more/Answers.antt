use Rattle.profile_merge.proofs.MergeLemmas.{sums_stay_with_more}
use Rattle.profile_merge.proofs.laws.sums_stay_with_more.Goals as goal

pub returns : goal.returns
returns c = sums_stay_with_more
