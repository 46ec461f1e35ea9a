-- What follows from the definitions.
use Rattle.std.specs.Prelude.{◌≡◌, ℕ, ◌+◌, ◌&&◌, Option}
use Rattle.block_model.specs.declared.parts.Weight.{Weight}
use Rattle.profile_model.specs.declared.ran_range.RanRange.{RanRange}
use Rattle.profile_model.specs.Hits.{holds}
use Rattle.weight_model.specs.Blocks.{IsWeightIn}
use Rattle.weight_model.specs.Edges.{runs_past}

-- Two weights of the same addresses are one.
abbrev pub WeightIsOne : Type 0 → Type 0
WeightIsOne K =
    (key : ℕ → Option K) (count : K → ℕ) (lo hi : ℕ) (one other : Weight)
    → IsWeightIn key count lo hi one → IsWeightIn key count lo hi other → one ≡ other

-- A range runs past an address exactly where it holds that and the one before it.
abbrev pub PassingHoldsBoth : Type 0
PassingHoldsBoth =
    (range : RanRange) (before : ℕ) → runs_past (before + 1) range ≡ (holds before range && holds (before + 1) range)
