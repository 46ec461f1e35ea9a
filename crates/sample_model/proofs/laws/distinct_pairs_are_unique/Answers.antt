use Rattle.sample_model.proofs.PairLemmas.{distinct_pairs_are_unique}
use Rattle.sample_model.proofs.laws.distinct_pairs_are_unique.Goals as goal

pub returns : goal.returns
returns c = distinct_pairs_are_unique
