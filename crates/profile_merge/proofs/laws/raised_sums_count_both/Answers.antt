use Rattle.profile_merge.proofs.MergeLemmas.{raised_sums_count_both}
use Rattle.profile_merge.proofs.laws.raised_sums_count_both.Goals as goal

pub returns : goal.returns
returns c = raised_sums_count_both
