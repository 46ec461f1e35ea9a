-- What looking around leaves true.
use Rattle.std.proofs.Common.{◌≡◌, ℕ, ◌+◌, ◌<◌, ◌≤◌, List, length, get_or, Option, arith, inl, inr, subst, ◌∙◌}
use Rattle.std.specs.Prelude.{ℤ}
use Rattle.std.specs.List.{Contains}
use Rattle.std.proofs.lemmas.Bool.{cases_lt}
use Rattle.std.proofs.lemmas.Int.{ints}
use Rattle.std.proofs.lemmas.List.{get_or_default}
use Rattle.flow_model.specs.declared.arc.Arc.{Arc}
use Rattle.reached_sides.specs.declared.mark.Mark.{Mark}
use Rattle.flow_model.specs.Prices.{FitsOn}
use Rattle.path_search.specs.Ground.{price_at}
use Rattle.path_search.specs.Search.{distance_at, ComeNearer, IsLooking, LedAlong, LedAgainst}
use Rattle.path_search.proofs.SearchLemmas.{nearer_itself, nearer_on}

pub led_on_along : (prices : List ℤ) (old new : List (Option Mark)) (distance : ℕ) (arc : Arc) (n : ℕ) → ComeNearer old new
    → LedAlong prices old distance arc n → LedAlong prices new distance arc n
led_on_along prices old new distance arc n nearer led below =
    let before = led below in
    let closer = nearer.nearer arc.head in
    omega (arith, ints, before, closer)

pub led_on_against : (prices : List ℤ) (old new : List (Option Mark)) (distance : ℕ) (arc : Arc) (n : ℕ) → ComeNearer old new
    → LedAgainst prices old distance arc n → LedAgainst prices new distance arc n
led_on_against prices old new distance arc n nearer led above =
    let before = led above in
    let closer = nearer.nearer arc.tail in
    omega (arith, ints, before, closer)

-- a step back to a side that is no further away leads no further than it costs
pub led_back_along : (prices : List ℤ) (marks : List (Option Mark)) (distance : ℕ) (arc : Arc) (n : ℕ) → FitsOn (price_at prices) arc n
    → distance_at marks arc.head ≤ distance → LedAlong prices marks distance arc n
led_back_along prices marks distance arc n fits near below =
    let rise = fits.more below in
    omega (arith, ints, rise, near)

pub led_back_against : (prices : List ℤ) (marks : List (Option Mark)) (distance : ℕ) (arc : Arc) (n : ℕ) → FitsOn (price_at prices) arc n
    → distance_at marks arc.tail ≤ distance → LedAgainst prices marks distance arc n
led_back_against prices marks distance arc n fits near above =
    let rise = fits.less above in
    omega (arith, ints, rise, near)

-- so many places of a row were looked at, each with this outcome
pub record HasLooked (Led : List (Option Mark) → ℕ → Type 0) (prices : List ℤ) (start marks : List (Option Mark)) (frontier : List (ℕ × ℕ))
    (distance : ℕ) (row : List ℕ) (j : ℕ) : Type 0 where
  pub looking : IsLooking prices marks frontier distance
  pub nearer : ComeNearer start marks
  pub led : (k : ℕ) → k < j → Led marks (get_or row k 0)

pub looked_none : (Led : List (Option Mark) → ℕ → Type 0) (prices : List ℤ) (marks : List (Option Mark)) (frontier : List (ℕ × ℕ))
    (distance : ℕ) (row : List ℕ) → IsLooking prices marks frontier distance → HasLooked Led prices marks marks frontier distance row 0
looked_none Led prices marks frontier distance row looking =
    record { looking = looking; nearer = nearer_itself marks; led = λ k below. absurd (omega (arith, below)) }

pub looked_more : (Led : List (Option Mark) → ℕ → Type 0) (prices : List ℤ) (start marks new_marks : List (Option Mark)) (frontier new_frontier : List (ℕ × ℕ))
    (distance : ℕ) (row : List ℕ) (j : ℕ)
    → ((place : ℕ) → ComeNearer marks new_marks → Led marks place → Led new_marks place)
    → HasLooked Led prices start marks frontier distance row j
    → IsLooking prices new_marks new_frontier distance → ComeNearer marks new_marks → Led new_marks (get_or row j 0)
    → HasLooked Led prices start new_marks new_frontier distance row (j + 1)
looked_more Led prices start marks new_marks frontier new_frontier distance row j on so_far looking nearer here = record {
  looking = looking;
  nearer = nearer_on start marks new_marks so_far.nearer nearer;
  led = λ k below.
      elim (cases_lt k j) [
        | inl before ↦ on (get_or row k 0) nearer (so_far.led k before)
        | inr last ↦ subst (λ (i : ℕ). Led new_marks (get_or row i 0)) (omega (arith, below, last)) here
      ];
}

-- when all of the row was passed
pub looked_all : (Led : List (Option Mark) → ℕ → Type 0) (prices : List ℤ) (start marks : List (Option Mark)) (frontier : List (ℕ × ℕ))
    (distance : ℕ) (row : List ℕ) (j place : ℕ) → HasLooked Led prices start marks frontier distance row j → length row ≤ j
    → Contains row place → Led marks place
looked_all Led prices start marks frontier distance row j place so_far all has =
    let within = has.1 in
    let there = so_far.led has.0 (omega (arith, all, within)) in
    subst (λ (p : ℕ). Led marks p) (at has.0 within has.2) there
  where
    at : (k : ℕ) → k < length row → get_or row k place ≡ place → get_or row k 0 ≡ place
    at k within is = get_or_default row k 0 place within ∙ is
