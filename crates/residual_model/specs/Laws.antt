-- What steps show of prices, cuts and pushes.
use Rattle.std.specs.Prelude.{◌≡◌, ℕ, ◌+◌, ◌-◌, ◌<◌, ◌≤◌, ◌↔◌, Bool, true, List, ℤ, pos, ◌+ℤ◌, ◌≤ℤ◌}
use Rattle.flow_model.specs.declared.arc.Arc.{Arc}
use Rattle.flow_model.specs.Circulation.{EachArc, IsWithin, inflow, outflow}
use Rattle.flow_model.specs.Cut.{IsCut}
use Rattle.flow_model.specs.Prices.{FitsOn, Fit}
use Rattle.flow_model.specs.Sound.{IsSoundUpper}
use Rattle.residual_model.specs.Residual.{cost_of_more, cost_of_less, EachStep, reduced, starting, TakesMore, TakesLess, moved}

-- Prices fit exactly where no step has a reduced cost below 0.
abbrev pub StepsJudgePrices : Type 0
StepsJudgePrices =
    (price : ℕ → ℤ) (arcs : List Arc) (counts : List ℕ)
    → Fit price arcs counts ↔ EachStep (λ from to cost. pos 0 ≤ℤ reduced price from to cost) arcs counts

-- No step leaves the set.
abbrev pub IsClosed : (ℕ → Bool) → List Arc → List ℕ → Type 0
IsClosed set arcs counts = EachStep (λ from to cost. set from ≡ true → set to ≡ true) arcs counts

-- A set that no step leaves, where something gathers and nothing lacks, is a cut.
abbrev pub ClosedSidesAreACut : Type 0
ClosedSidesAreACut =
    (set : ℕ → Bool) (arcs : List Arc) (counts : List ℕ) → EachArc IsWithin arcs counts → IsClosed set arcs counts
    → ((node : ℕ) → set node ≡ true → outflow arcs counts node ≤ inflow arcs counts node)
    → (node : ℕ) → set node ≡ true → outflow arcs counts node < inflow arcs counts node → IsCut set arcs

-- Distances hold on each step from a node that is nearer than the limit: it leads no further than its reduced cost.
abbrev pub HoldBelow : ℕ → (ℕ → ℕ) → (ℕ → ℤ) → List Arc → List ℕ → Type 0
HoldBelow limit distance price arcs counts =
    EachStep (λ from to cost. distance from < limit
    → pos (distance to) ≤ℤ (pos (distance from) +ℤ reduced price from to cost)) arcs counts

-- Prices that fit and are moved by distances fit.
abbrev pub MovedPricesFit : Type 0
MovedPricesFit =
    (price : ℕ → ℤ) (distance : ℕ → ℕ) (limit : ℕ) (arcs : List Arc) (counts : List ℕ)
    → Fit price arcs counts → HoldBelow limit distance price arcs counts → Fit (moved price distance limit) arcs counts

-- A weight moved into its bounds is within them, and equal prices fit it.
abbrev pub StartingCountsFit : Type 0
StartingCountsFit =
    (arc : Arc) → IsSoundUpper arc.lower arc.upper
    → IsWithin arc (starting arc) × FitsOn (λ node. pos 0) arc (starting arc)

-- What is pushed along an arc at no reduced cost keeps it within bounds and the prices fitting.
abbrev pub PushesAlongFit : Type 0
PushesAlongFit =
    (price : ℕ → ℤ) (arc : Arc) (n amount : ℕ)
    → IsWithin arc n → FitsOn price arc n → 0 < amount → TakesMore arc n amount
    → reduced price arc.tail arc.head (cost_of_more arc n) ≡ pos 0
    → IsWithin arc (n + amount) × FitsOn price arc (n + amount)

-- And so against it.
abbrev pub PushesAgainstFit : Type 0
PushesAgainstFit =
    (price : ℕ → ℤ) (arc : Arc) (n amount : ℕ)
    → IsWithin arc n → FitsOn price arc n → 0 < amount → TakesLess arc n amount
    → reduced price arc.head arc.tail (cost_of_less arc n) ≡ pos 0
    → IsWithin arc (n - amount) × FitsOn price arc (n - amount)
