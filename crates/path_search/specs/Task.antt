-- What a search is asked.
use Rattle.std.specs.Prelude.{ℕ, List, ℤ}
use Rattle.flow_model.specs.Network.{Network}
use Rattle.path_search.specs.declared.ground.Ground.{Ground}

-- By these prices, the nearest side that lacks something, from a source over the steps that counts leave.
pub record Task : Type 0 where
  pub net : Network
  pub counts : List ℕ
  pub prices : List ℤ
  pub excess : List ℤ
  pub source : ℕ

-- A task by its parts.
abbrev pub task_of : Network → List ℕ → List ℤ → List ℤ → ℕ → Task
task_of net counts prices excess source =
    record { net = net; counts = counts; prices = prices; excess = excess; source = source }

-- The task on a ground.
abbrev pub task_on : Ground → ℕ → Task
task_on lent source = task_of lent.net.now lent.counts.now lent.prices.now lent.excess.now source
