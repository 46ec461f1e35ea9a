-- Counts of a function that conserve within bounds, and those of least cost.
use Rattle.std.specs.Prelude.{◌≡◌, ℕ, ◌≤◌, length}
use Rattle.std.specs.Prelude.{ℤ}
use Rattle.flow_model.specs.Circulation.{IsCirculation, total_cost}
use Rattle.flow_model.specs.Network.{Network, Counts, arcs_of, loads}
use Rattle.flow_model.specs.Prices.{Fit}

-- There is a count for each block and each edge.
pub record AreCounts (net : Network) (counts : Counts) : Type 0 where
  pub blocks : length counts.blocks ≡ length net.blocks
  pub edges : length counts.edges ≡ length net.edges

-- Counts conserve within bounds where with the calls and the returns that they leave they are a circulation.
pub record ConserveWithinBounds (net : Network) (counts : Counts) : Type 0 where
  pub each : AreCounts net counts
  pub circulation : IsCirculation (arcs_of net) (loads net counts)

-- What counts of a function cost.
abbrev pub cost_of : Network → Counts → ℕ
cost_of net counts = total_cost (arcs_of net) (loads net counts)

-- Counts that conserve within bounds and cost at most what all others cost that do.
pub record AreLeast (net : Network) (counts : Counts) : Type 0 where
  pub conserve : ConserveWithinBounds net counts
  pub least : (others : Counts) → ConserveWithinBounds net others → cost_of net counts ≤ cost_of net others

-- Prices of the sides that fit the counts.
abbrev pub FitCounts : (ℕ → ℤ) → Network → Counts → Type 0
FitCounts price net counts = Fit price (arcs_of net) (loads net counts)
