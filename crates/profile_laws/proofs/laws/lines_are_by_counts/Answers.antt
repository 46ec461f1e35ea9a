use Rattle.profile_laws.proofs.CountLemmas.{lines_are_by_counts}
use Rattle.profile_laws.proofs.laws.lines_are_by_counts.Goals as goal

pub returns : goal.returns
returns c = lines_are_by_counts
