-- The count of a place: how often its address that ran most often did, so far as samples tell.
use Rattle.std.specs.Prelude.{◌≡◌, ◌⊎◌, ◌≤◌, ℕ, ◌*◌, Option, Some}

-- What was seen of an address counts as often as its code stands in place of one piece of source code.
abbrev pub weighed : (ℕ → ℕ) → (ℕ → ℕ) → ℕ → ℕ
weighed hits factor a = hits a * factor a

-- The count of a place is the largest hits times factor of its addresses, and 0 where there is none.
pub record IsCount {K : Type 0} (place : ℕ → Option K) (hits factor : ℕ → ℕ) (key : K) (count : ℕ) : Type 0 where
  pub attained : (count ≡ 0) ⊎ ((a : ℕ) × (place a ≡ Some key) × (weighed hits factor a ≡ count))
  pub largest : (a : ℕ) → place a ≡ Some key → weighed hits factor a ≤ count
