-- What is kept for offsets.
use Rattle.std.specs.Prelude.{◌≡◌, ℕ, nat_eq, List, ◌⊎◌, Option, Some}
use Rattle.std.specs.Map.{lookup}

-- What is kept for an offset.
abbrev pub kept_at : {X : Type 0} → List (ℕ × X) → ℕ → Option X
kept_at kept at = lookup (nat_eq at) kept

-- What is kept behind a call was kept before it, or is this at this offset.
abbrev pub AddsKnown : {X : Type 0} → List (ℕ × X) → List (ℕ × X) → ℕ → X → Type 0
AddsKnown {X = X} old new at it =
    (place : ℕ) (other : X) → kept_at new place ≡ Some other
    → (kept_at old place ≡ Some other) ⊎ ((place ≡ at) × (other ≡ it))
