use Rattle.cold_model.proofs.ColdLemmas as lemmas
use Rattle.cold_model.proofs.laws.lines_with_are_by_counts.Goals as goal

pub returns : goal.returns
returns c = lemmas.lines_with_are_by_counts
