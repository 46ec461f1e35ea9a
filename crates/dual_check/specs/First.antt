-- The first of a list of arcs that breaks its test.
use Rattle.std.specs.Prelude.{◌≡◌, ℕ, List, take, slice_get, slice_index, Option, None, Some, ℤ}
use Rattle.flow_model.specs.declared.arc.Arc.{Arc}
use Rattle.flow_model.specs.Circulation.{EachArc}
use Rattle.flow_model.specs.Network.{Network, Counts}
use Rattle.flow_model.specs.Passing.{AllTestsPass, PassesBlock, PassesEdge}
use Rattle.dual_check.specs.declared.spot.Spot.{Spot}
use Rattle.dual_check.specs.declared.spot.Spot.TheVariants.{Block, Edge}

-- All before this place pass, and the arc that stands there does not, with its count.
pub record FailsFirst (P : Arc → ℕ → Type 0) (arcs : List Arc) (counts : List ℕ) (k : ℕ) : Type 0 where
  pub before : EachArc P (take k arcs) (take k counts)
  pub arc : Arc
  pub there : slice_get arcs k ≡ Some arc
  pub fails : P arc (slice_index counts k) → ⊥

-- The place of the first that fails, or none where all pass.
abbrev pub IsFirst : (Arc → ℕ → Type 0) → List Arc → List ℕ → Option ℕ → Type 0
IsFirst P arcs counts None = EachArc P arcs counts
IsFirst P arcs counts (Some k) = FailsFirst P arcs counts k

-- The first block that fails; where none does, the first edge; where none does either, none.
abbrev pub IsFirstBad : Network → Counts → (ℕ → ℤ) → Option Spot → Type 0
IsFirstBad net counts price None = AllTestsPass net counts price
IsFirstBad net counts price (Some (Block k)) = FailsFirst (PassesBlock net counts price) net.blocks counts.blocks k
IsFirstBad net counts price (Some (Edge k)) =
    EachArc (PassesBlock net counts price) net.blocks counts.blocks
    × FailsFirst (PassesEdge price) net.edges counts.edges k
