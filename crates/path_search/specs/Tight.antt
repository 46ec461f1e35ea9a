-- Steps that cost nothing by prices.
use Rattle.std.specs.Prelude.{◌≡◌, ℕ, List, ℤ, pos}
use Rattle.flow_model.specs.declared.arc.Arc.{Arc}
use Rattle.flow_model.specs.Prices.{IsBelow}
use Rattle.residual_model.specs.Residual.{cost_of_more, reduced}
use Rattle.path_search.specs.Ground.{price_at}

-- One unit more may pass on an arc, and costs what the price rises there.
pub record IsTightAlong (prices : List ℤ) (arc : Arc) (n : ℕ) : Type 0 where
  pub leaves : IsBelow arc.upper n
  pub costs : reduced (price_at prices) arc.tail arc.head (cost_of_more arc n) ≡ pos 0
