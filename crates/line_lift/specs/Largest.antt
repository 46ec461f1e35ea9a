-- The largest of some counts.
use Rattle.std.specs.Prelude.{ℕ, ◌≤◌, max, Option, None, Some}

-- The largest number of those of which R holds: it is one of them, and none is above it.
pub record IsLargestOf (R : ℕ → Type 0) (largest : ℕ) : Type 0 where
  pub attained : R largest
  pub bounded : (n : ℕ) → R n → n ≤ largest

-- The same, or none where R holds of no number.
abbrev pub IsLargest : (ℕ → Type 0) → Option ℕ → Type 0
IsLargest R None = (n : ℕ) → R n → ⊥
IsLargest R (Some largest) = IsLargestOf R largest

-- The larger of two, each of which may be none.
abbrev pub larger : Option ℕ → Option ℕ → Option ℕ
larger None other = other
larger (Some n) None = Some n
larger (Some n) (Some m) = Some (max n m)
