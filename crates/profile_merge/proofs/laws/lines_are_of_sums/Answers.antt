use Rattle.profile_merge.proofs.MergeLemmas.{lines_are_of_sums}
use Rattle.profile_merge.proofs.laws.lines_are_of_sums.Goals as goal

pub returns : goal.returns
returns c = lines_are_of_sums
