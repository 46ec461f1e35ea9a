-- What fitting prices and cuts show.
use Rattle.std.specs.Prelude.{◌≡◌, ℕ, Bool, List, ℤ}
use Rattle.flow_model.specs.declared.arc.Arc.{Arc}
use Rattle.flow_model.specs.Circulation.{root, inflow, outflow, Conserve, IsCirculation, IsLeast}
use Rattle.flow_model.specs.Cut.{IsCut}
use Rattle.flow_model.specs.Network.{Network, Counts, arcs_of}
use Rattle.flow_model.specs.Prices.{Fit}
use Rattle.flow_model.specs.Repair.{AreLeast, ConserveWithinBounds, FitCounts}

-- Prices that fit a circulation show that it costs least.
abbrev pub FittingPricesShowLeast : Type 0
FittingPricesShowLeast =
    (arcs : List Arc) (counts : List ℕ) (price : ℕ → ℤ)
    → IsCirculation arcs counts → Fit price arcs counts → IsLeast arcs counts

-- Where a set is a cut, no counts are a circulation.
abbrev pub CutsShowNone : Type 0
CutsShowNone =
    (arcs : List Arc) (set : ℕ → Bool) → IsCut set arcs → (counts : List ℕ) → IsCirculation arcs counts → ⊥

-- Prices that fit a function's counts show that these are least among all counts of any size.
abbrev pub FittingPricesShowLeastCounts : Type 0
FittingPricesShowLeastCounts =
    (net : Network) (counts : Counts) (price : ℕ → ℤ)
    → ConserveWithinBounds net counts → FitCounts price net counts → AreLeast net counts

-- Where a set of sides is a cut, no counts of the function conserve within bounds.
abbrev pub CutsShowNoCounts : Type 0
CutsShowNoCounts =
    (net : Network) (set : ℕ → Bool) → IsCut set (arcs_of net) → (counts : Counts) → ConserveWithinBounds net counts → ⊥

-- What holds at each other node holds at the root: as much enters as leaves.
abbrev pub TheRootConserves : Type 0
TheRootConserves =
    (arcs : List Arc) (counts : List ℕ) → Conserve arcs counts → inflow arcs counts root ≡ outflow arcs counts root
