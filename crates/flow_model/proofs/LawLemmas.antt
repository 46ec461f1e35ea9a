-- The laws.
use Rattle.std.proofs.Common.{◌≡◌, ℕ, ◌+◌, ◌*◌, ◌≤◌, Bool, true, false, not, ◌&&◌, List, [], ◌∷◌, Option, None, Some, if◌then◌else◌, refl, arith}
use Rattle.std.specs.Prelude.{ℤ}
use Rattle.flow_model.specs.declared.arc.Arc.{Arc}
use Rattle.flow_model.specs.Circulation.{EachArc, IsAtMost, IsWithin, total_cost}
use Rattle.flow_model.specs.Cut.{least_in, both_bounds, most_out}
use Rattle.flow_model.specs.Prices.{Fit}
use Rattle.flow_model.specs.Laws.{FittingPricesShowLeast, FittingPricesShowLeastCounts, CutsShowNone, CutsShowNoCounts, TheRootConserves}
use Rattle.flow_model.specs.Network.{arcs_of, loads}
use Rattle.flow_model.proofs.CirculationLemmas.{priced, priced_same, conserve_at_root}
use Rattle.flow_model.proofs.PriceLemmas.{gain, loss, cost_by-is, arc_costs}

-- ---- prices

heads : (ℕ → ℕ) → List Arc → List ℕ → ℕ
heads p arcs counts = priced (λ arc. arc.head) p arcs counts

tails : (ℕ → ℕ) → List Arc → List ℕ → ℕ
tails p arcs counts = priced (λ arc. arc.tail) p arcs counts

heads-more : (p : ℕ → ℕ) (arc : Arc) (arcs : List Arc) (n : ℕ) (counts : List ℕ) → heads p (arc ∷ arcs) (n ∷ counts) ≡ p arc.head * n + heads p arcs counts
unfolding heads priced
heads-more p arc arcs n counts = refl

tails-more : (p : ℕ → ℕ) (arc : Arc) (arcs : List Arc) (n : ℕ) (counts : List ℕ) → tails p (arc ∷ arcs) (n ∷ counts) ≡ p arc.tail * n + tails p arcs counts
unfolding tails priced
tails-more p arc arcs n counts = refl

all_costs : (arcs : List Arc) (counts others : List ℕ) (price : ℕ → ℤ)
    → EachArc IsWithin arcs counts → EachArc IsWithin arcs others → Fit price arcs counts
    → let g : ℕ → ℕ = λ s. gain (price s) in
    let l : ℕ → ℕ = λ s. loss (price s) in
    heads g arcs others + tails l arcs others + (tails g arcs counts + heads l arcs counts) + total_cost arcs counts
    ≤ tails g arcs others + heads l arcs others + (heads g arcs counts + tails l arcs counts) + total_cost arcs others
unfolding heads tails
all_costs [] [] [] price here there fits = omega arith
all_costs [] [] (m ∷ others) price here there fits = absurd there
all_costs [] (n ∷ counts) others price here there fits = absurd here
all_costs (arc ∷ arcs) [] others price here there fits = absurd here
all_costs (arc ∷ arcs) (n ∷ counts) [] price here there fits = absurd there
all_costs (arc ∷ arcs) (n ∷ counts) (m ∷ others) price here there fits =
    let g : ℕ → ℕ = λ s. gain (price s) in
    let l : ℕ → ℕ = λ s. loss (price s) in
    let more = all_costs arcs counts others price here.1 there.1 fits.1 in
    let one = arc_costs price arc n m here.0 there.0 fits.0 in
    let at = cost_by-is arc n in
    let at_other = cost_by-is arc m in
    rw (heads-more g arc arcs m others, tails-more g arc arcs m others, heads-more l arc arcs m others, tails-more l arc arcs m others)
    (rw (heads-more g arc arcs n counts, tails-more g arc arcs n counts, heads-more l arc arcs n counts, tails-more l arc arcs n counts)
    (omega (arith, more, one, at, at_other)))

pub fitting_prices_show_least : FittingPricesShowLeast
unfolding heads tails
fitting_prices_show_least arcs counts price circulation fits = record {
  circulation = circulation;
  least = λ others another.
      let g : ℕ → ℕ = λ s. gain (price s) in
      let l : ℕ → ℕ = λ s. loss (price s) in
      let costs = all_costs arcs counts others price circulation.within another.within fits in
      let gains = priced_same arcs counts g circulation.conserve in
      let losses = priced_same arcs counts l circulation.conserve in
      let other_gains = priced_same arcs others g another.conserve in
      let other_losses = priced_same arcs others l another.conserve in
      omega (arith, costs, gains, losses, other_gains, other_losses);
}

-- ---- cuts

-- 1 in the set, 0 outside
abbrev member : (ℕ → Bool) → ℕ → ℕ
member set s = if set s then 1 else 0

-- one arc, its tail and its head in the set or not, before those whose bounds let out at most r
cut_step : (tail head : Bool) (upper rest : Option ℕ) (lower n most : ℕ) → lower ≤ n → IsAtMost upper n
    → both_bounds (if (tail && not head) then upper else Some 0) rest ≡ Some most
    → (r : ℕ) × (rest ≡ Some r)
    × ((if tail then 1 else 0) * n + (if (head && not tail) then lower else 0) + r ≤ (if head then 1 else 0) * n + most)
cut_step true false None rest lower n most least within is = absurd (cc)
cut_step true false (Some upper) None lower n most least within is = absurd (cc)
cut_step true false (Some upper) (Some r) lower n most least within is =
    let e : upper + r ≡ most = cc in (r, refl, omega (arith, e, within))
cut_step true true upper None lower n most least within is = absurd (cc)
cut_step true true upper (Some r) lower n most least within is = let e : 0 + r ≡ most = cc in (r, refl, omega (arith, e))
cut_step false true upper None lower n most least within is = absurd (cc)
cut_step false true upper (Some r) lower n most least within is = let e : 0 + r ≡ most = cc in (r, refl, omega (arith, e, least))
cut_step false false upper None lower n most least within is = absurd (cc)
cut_step false false upper (Some r) lower n most least within is = let e : 0 + r ≡ most = cc in (r, refl, omega (arith, e))

cut_counts : (set : ℕ → Bool) (arcs : List Arc) (counts : List ℕ) (most : ℕ) → EachArc IsWithin arcs counts → most_out set arcs ≡ Some most
    → tails (member set) arcs counts + least_in set arcs ≤ heads (member set) arcs counts + most
unfolding heads tails priced
cut_counts set [] [] most within is = omega arith
cut_counts set [] (n ∷ counts) most within is = absurd within
cut_counts set (arc ∷ arcs) [] most within is = absurd within
cut_counts set (arc ∷ arcs) (n ∷ counts) most within is =
    let step = cut_step (set arc.tail) (set arc.head) arc.upper (most_out set arcs) arc.lower n most within.0.0 within.0.1 is in
    let more = cut_counts set arcs counts step.0 within.1 step.1 in
    rw (heads-more (member set) arc arcs n counts, tails-more (member set) arc arcs n counts) (omega (arith, more, step.2))

pub a_cut_shows_none : CutsShowNone
unfolding heads tails
a_cut_shows_none arcs set cut counts circulation =
    let crossed = cut_counts set arcs counts cut.0 circulation.within cut.1 in
    let same = priced_same arcs counts (member set) circulation.conserve in
    omega (arith, crossed, same, cut.2)

-- ---- the counts of a function

pub fitting_prices_show_least_counts : FittingPricesShowLeastCounts
fitting_prices_show_least_counts net counts price conserve fits = record {
  conserve = conserve;
  least = λ others another.
      (fitting_prices_show_least (arcs_of net) (loads net counts) price conserve.circulation fits).least (loads net others) another.circulation;
}

pub a_cut_shows_no_counts : CutsShowNoCounts
a_cut_shows_no_counts net set cut counts conserve = a_cut_shows_none (arcs_of net) set cut (loads net counts) conserve.circulation

pub the_root_conserves : TheRootConserves
the_root_conserves = conserve_at_root
