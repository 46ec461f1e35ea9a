-- What a map of places says of functions.
use Rattle.std.specs.Prelude.{◌≡◌, ◌↔◌, ℕ, ◌≤◌, Option, None, IsSome, refl}

-- Numbers of stretches. An address has one where a function holds it. Two such addresses have the same one exactly
-- where the same function holds all addresses from the one to the other, both held.
pub record IsStretches (function stretch : ℕ → Option ℕ) : Type 0 where
  pub there : (a : ℕ) → IsSome (stretch a) ↔ IsSome (function a)
  pub together : (a b : ℕ) → IsSome (function a) → IsSome (function b) → a ≤ b
      → (stretch a ≡ stretch b) ↔ ((c : ℕ) → a ≤ c → c ≤ b → function c ≡ function a)

-- Without functions there are no stretches.
pub no_stretches : IsStretches (λ _. None) (λ _. None)
no_stretches = record { there = λ a. (λ h. h, λ h. h); together = λ a b _ _ _. (λ _ c _ _. refl, λ _. refl) }
