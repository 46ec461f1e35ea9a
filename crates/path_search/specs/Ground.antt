-- What a search goes by: counts on the arcs of a network, and prices of its sides that fit them.
use Rattle.std.specs.Prelude.{◌≡◌, ℕ, ◌+◌, ◌*◌, ◌-◌, ◌^◌, List, length, slice_index_or, ℤ, pos, negsuc, ◌≤ℤ◌}
use Rattle.std.specs.List.{All}
use Rattle.flow_model.specs.declared.arc.Arc.{Arc}
use Rattle.flow_model.specs.Network.{Network, arcs_of, free_arc}
use Rattle.flow_model.specs.Prices.{Fit}
use Rattle.flow_model.specs.Sound.{IsNet}

-- The arc at a place.
abbrev pub arc_at : List Arc → ℕ → Arc
arc_at arcs place = slice_index_or arcs place (free_arc 0 0 0)

-- The count on the arc at a place.
abbrev pub count_at : List ℕ → ℕ → ℕ
count_at counts place = slice_index_or counts place 0

-- The price of a side.
abbrev pub price_at : List ℤ → ℕ → ℤ
price_at prices side = slice_index_or prices side (pos 0)

-- A price within 2^31 on either side of 0.
pub record IsSmallPrice (price : ℤ) : Type 0 where
  pub least : negsuc (2 ^ 31 - 1) ≤ℤ price
  pub most : price ≤ℤ pos (2 ^ 31)

-- Each price is small.
abbrev pub AreSmall : List ℤ → Type 0
AreSmall prices = All IsSmallPrice prices

-- A cost of a unit within 40 on either side of 0.
pub record IsSmallCost (cost : ℤ) : Type 0 where
  pub least : negsuc 39 ≤ℤ cost
  pub most : cost ≤ℤ pos 40

-- How many sides a network has: the root, and two for each block.
abbrev pub sides_of : Network → ℕ
sides_of net = 2 * length net.blocks + 1

-- The network is that of a function; there are a count for each arc and a small price for each side, and the prices fit
-- the counts.
pub record IsGround (net : Network) (counts : List ℕ) (prices : List ℤ) : Type 0 where
  pub of_a_function : IsNet net
  pub counted : length counts ≡ length (arcs_of net)
  pub priced : length prices ≡ sides_of net
  pub small : AreSmall prices
  pub fit : Fit (price_at prices) (arcs_of net) counts
