use Rattle.profile_merge.proofs.MergeLemmas.{sums_are_by_counts}
use Rattle.profile_merge.proofs.laws.sums_are_by_counts.Goals as goal

pub returns : goal.returns
returns c = sums_are_by_counts
