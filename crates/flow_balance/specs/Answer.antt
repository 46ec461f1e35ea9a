-- What answers tell of prices and marks.
use Rattle.std.specs.Prelude.{◌≡◌, ℕ, ◌+◌, ◌*◌, ◌<◌, List, length, slice_index_or, Option, ℤ, ◌-ℤ◌}
use Rattle.flow_model.specs.Network.{Network}
use Rattle.reached_sides.specs.declared.mark.Mark.{Mark}
use Rattle.flow_model.specs.Sides.{AreSides}
use Rattle.flow_network.specs.Flow.{holds, price_of}
use Rattle.flow_network.specs.declared.flow.Nodes.{Nodes}
use Rattle.flow_network.specs.declared.flow.Prices.{Prices}
use Rattle.path_search.specs.Ground.{price_at, sides_of}
use Rattle.path_search.specs.Search.{is_reached}

-- A list of what stands at so many sides, each second one from the first on.
pub record IsEveryOther {A : Type 0} (at : ℕ → A) (first blocks : ℕ) (list : List A) : Type 0 where
  pub each : length list ≡ blocks
  pub told : (block : ℕ) (d : A) → block < blocks → slice_index_or list block d ≡ at (first + 2 * block)

-- Prices are told above that of the root.
pub record TellPrices (net : Network) (prices : List ℤ) (told : Prices) : Type 0 where
  pub sides : AreSides net told.ins told.outs
  pub same : (side : ℕ) → side < sides_of net → price_of told side ≡ price_at prices side -ℤ price_at prices 0

-- A set has the sides that are marked.
pub record TellsReached (net : Network) (marks : List (Option Mark)) (nodes : Nodes) : Type 0 where
  pub sides : AreSides net nodes.ins nodes.outs
  pub same : (side : ℕ) → side < sides_of net → holds nodes side ≡ is_reached marks side
