-- Stretches of one function: disjoint spans, of which no two that touch have one owner.
use Rattle.std.specs.Prelude.{◌≡◌, ℕ, suc, ◌-◌, ◌^◌, Bool, true, ◌&&◌, ◌==◌, not, nat_lt, nat_le, List, [], ◌∷◌, ◌++◌, Option, if◌then◌else◌}
use Rattle.address_spans.specs.declared.span.Span.{Span}
use Rattle.address_spans.specs.Spans.{owner_at}

-- A span ends where another begins, and both have one owner.
abbrev pub touch : Span → Span → Bool
touch x y = x.hi == y.lo && x.owner == y.owner

-- Both spans in one, which has the owner of the first.
abbrev pub both : Span → Span → Span
both x y = record { lo = x.lo; hi = y.hi; owner = x.owner }

-- A span and those behind it, with those that touch made one.
abbrev pub joined_on : Span → List Span → List Span
joined_on x [] = x ∷ []
joined_on x (y ∷ ys) = (if touch x y then [] else x ∷ []) ++ joined_on (if touch x y then both x y else y) ys

-- Spans, with those that touch made one.
abbrev pub joined : List Span → List Span
joined [] = []
joined (x ∷ xs) = joined_on x xs

-- A stretch is not empty. The next one begins behind its end, or there with another owner.
abbrev pub goes_on : Span → List Span → Bool
goes_on x [] = nat_lt x.lo x.hi && nat_le x.hi (2 ^ 64 - 1)
goes_on x (y ∷ ys) = nat_lt x.lo x.hi && nat_le x.hi y.lo && not (touch x y) && goes_on y ys

-- These spans are stretches.
abbrev pub are_stretches : List Span → Bool
are_stretches [] = true
are_stretches (x ∷ xs) = goes_on x xs

-- Spans that are stretches, each owned by its function.
pub record Stretched : Type 0 where
  pub spans : List Span
  pub are : are_stretches spans ≡ true

-- The spans, each owned by its place, counted from `n` on.
abbrev pub numbered : ℕ → List Span → List Span
numbered n [] = []
numbered n (x ∷ xs) = record { lo = x.lo; hi = x.hi; owner = n } ∷ numbered (suc n) xs

-- The function that holds an address.
abbrev pub function_at : Stretched → ℕ → Option ℕ
function_at stretches address = owner_at stretches.spans address

-- The number of the stretch that holds an address.
abbrev pub number_at : Stretched → ℕ → Option ℕ
number_at stretches address = owner_at (numbered 0 stretches.spans) address
