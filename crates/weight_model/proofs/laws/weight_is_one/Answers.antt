use Rattle.std.proofs.Common.{ℕ}
use Rattle.weight_model.proofs.WeightLemmas.{weight_is_one}
use Rattle.weight_model.proofs.laws.weight_is_one.Goals as goal

pub returns : goal.returns
returns c = weight_is_one ℕ
