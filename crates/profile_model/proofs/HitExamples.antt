-- The definitions on worked values.
use Rattle.std.proofs.Common.{◌≡◌, ℕ, ◌-◌, ◌^◌, List, [], ◌∷◌, refl, map}
use Rattle.profile_model.specs.declared.ran_range.RanRange.{RanRange}
use Rattle.profile_model.specs.declared.step.Step.{Step}
use Rattle.profile_model.specs.Hits.{hits_at, times_of}
use Rattle.profile_model.specs.Steps.{hits_by}

range : ℕ → ℕ → ℕ → RanRange
range lo hi times = record { lo = lo; hi = hi; times = times }

-- two that touch, one inside the first, the first once more, and one at either end of all addresses
ranges : List RanRange
unfolding range
ranges = range 10 19 1 ∷ range 20 29 2 ∷ range 12 15 4 ∷ range 10 19 8 ∷ range 0 0 16 ∷ range (2 ^ 64 - 1) (2 ^ 64 - 1) 32 ∷ []

hits : map (hits_at ranges) (0 ∷ 1 ∷ 9 ∷ 10 ∷ 12 ∷ 15 ∷ 16 ∷ 19 ∷ 20 ∷ 29 ∷ 30 ∷ (2 ^ 64 - 1) ∷ []) ≡ 16 ∷ 0 ∷ 0 ∷ 9 ∷ 13 ∷ 13 ∷ 9 ∷ 9 ∷ 2 ∷ 2 ∷ 0 ∷ 32 ∷ []
unfolding range ranges
hits = refl

all : times_of ranges ≡ 63
unfolding range ranges
all = refl

step : ℕ → ℕ → Step
step at hits = record { at = at; hits = hits }

by_steps : map (hits_by (step 10 9 ∷ step 12 13 ∷ step 16 0 ∷ [])) (0 ∷ 9 ∷ 10 ∷ 11 ∷ 12 ∷ 15 ∷ 16 ∷ (2 ^ 64 - 1) ∷ []) ≡ 0 ∷ 0 ∷ 9 ∷ 9 ∷ 13 ∷ 13 ∷ 0 ∷ 0 ∷ []
unfolding step
by_steps = refl

-- the last step holds up to the last address
to_the_end : map (hits_by (step 10 9 ∷ [])) (9 ∷ (2 ^ 64 - 1) ∷ (2 ^ 64) ∷ []) ≡ 0 ∷ 9 ∷ 0 ∷ []
unfolding step
to_the_end = refl
