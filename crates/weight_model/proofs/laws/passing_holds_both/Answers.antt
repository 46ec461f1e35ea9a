use Rattle.weight_model.proofs.WeightLemmas.{passing_holds_both}
use Rattle.weight_model.proofs.laws.passing_holds_both.Goals as goal

pub returns : goal.returns
returns c = passing_holds_both
