use Rattle.sample_model.proofs.PairLemmas.{distinct_pairs_ascend}
use Rattle.sample_model.proofs.laws.distinct_pairs_ascend.Goals as goal

pub returns : goal.returns
returns c = distinct_pairs_ascend
