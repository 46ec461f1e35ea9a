-- A set that no step leaves, where something gathers, is a cut.
use Rattle.std.proofs.Common.{◌≡◌, ℕ, zero, suc, ◌+◌, ◌*◌, ◌<◌, ◌≤◌, Bool, true, false, not, ◌&&◌, List, [], ◌∷◌, Option, None, Some, if◌then◌else◌, refl, arith, inl, inr}
use Rattle.std.proofs.lemmas.Bool.{cases_lt}
use Rattle.flow_model.specs.declared.arc.Arc.{Arc}
use Rattle.flow_model.specs.Circulation.{EachArc, IsAtMost, IsWithin, inflow, outflow}
use Rattle.flow_model.specs.Cut.{least_in, both_bounds, most_out}
use Rattle.flow_model.specs.Prices.{IsBelow}
use Rattle.flow_model.proofs.CirculationLemmas.{above, priced, priced_by_node, sum_to}
use Rattle.residual_model.specs.Laws.{ClosedSidesAreACut, IsClosed}

-- ---- sums over nodes

sum_to-le : (k : ℕ) (f g : ℕ → ℕ) → ((s : ℕ) → f s ≤ g s) → sum_to k f ≤ sum_to k g
unfolding sum_to
sum_to-le zero f g order = omega arith
sum_to-le (suc k) f g order =
    let more = sum_to-le k (λ s. f (suc s)) (λ s. g (suc s)) (λ s. order (suc s)) in
    omega (arith, more, order 0)

sum_to-lt : (k h : ℕ) (f g : ℕ → ℕ) → ((s : ℕ) → f s ≤ g s) → h < k → f h < g h → sum_to k f < sum_to k g
unfolding sum_to
sum_to-lt zero h f g order below less = absurd (omega (arith, below))
sum_to-lt (suc k) zero f g order below less =
    let more = sum_to-le k (λ s. f (suc s)) (λ s. g (suc s)) (λ s. order (suc s)) in
    omega (arith, more, less)
sum_to-lt (suc k) (suc h) f g order below less =
    let more = sum_to-lt k h (λ s. f (suc s)) (λ s. g (suc s)) (λ s. order (suc s)) (omega (arith, below)) less in
    omega (arith, more, order 0)

-- ---- what crosses a set

-- 1 in the set, 0 outside
abbrev member : (ℕ → Bool) → ℕ → ℕ
member set s = if set s then 1 else 0

-- one arc that no step leaves the set on, before those whose bounds let out r
closed_step : (tail head : Bool) (upper : Option ℕ) (lower n r : ℕ) → lower ≤ n → IsAtMost upper n
    → (IsBelow upper n → tail ≡ true → head ≡ true) → (lower < n → head ≡ true → tail ≡ true)
    → (most : ℕ) × (both_bounds (if (tail && not head) then upper else Some 0) (Some r) ≡ Some most)
    × ((if head then 1 else 0) * n + most ≡ (if tail then 1 else 0) * n + (if (head && not tail) then lower else 0) + r)
closed_step true false None lower n r least within along against = let e : false ≡ true = along tt refl in absurd (cc)
closed_step true false (Some upper) lower n r least within along against =
    elim (cases_lt n upper) [
      | inl below ↦ let e : false ≡ true = along below refl in absurd (cc)
      | inr full ↦ (upper + r, refl, omega (arith, full, within))
    ]
closed_step true true upper lower n r least within along against = (0 + r, refl, omega arith)
closed_step false true upper lower n r least within along against =
    elim (cases_lt lower n) [
      | inl over ↦ let e : false ≡ true = against over refl in absurd (cc)
      | inr even ↦ (0 + r, refl, omega (arith, even, least))
    ]
closed_step false false upper lower n r least within along against = (0 + r, refl, omega arith)

-- on all arcs: what gathers in the set is what has to flow in without what can flow out
closed_sum : (set : ℕ → Bool) (arcs : List Arc) (counts : List ℕ) → EachArc IsWithin arcs counts → IsClosed set arcs counts
    → (most : ℕ) × (most_out set arcs ≡ Some most)
    × (priced (λ arc. arc.head) (member set) arcs counts + most ≡ priced (λ arc. arc.tail) (member set) arcs counts + least_in set arcs)
unfolding priced
closed_sum set [] [] within closed = (0, refl, refl)
closed_sum set [] (n ∷ counts) within closed = absurd within
closed_sum set (arc ∷ arcs) [] within closed = absurd within
closed_sum set (arc ∷ arcs) (n ∷ counts) within closed =
    let more = closed_sum set arcs counts within.1 closed.1 in
    let step = closed_step (set arc.tail) (set arc.head) arc.upper arc.lower n more.0 within.0.0 within.0.1 closed.0.along closed.0.against in
    let out : most_out set (arc ∷ arcs) ≡ Some step.0 = rw more.1 step.1 in
    (step.0, out, omega (arith, more.2, step.2))

not_less : (set : ℕ → Bool) (s m n : ℕ) → (set s ≡ true → m ≤ n) → member set s * m ≤ member set s * n
not_less set s m n order = by_set (set s) order
  where
    by_set : (inside : Bool) → (inside ≡ true → m ≤ n) → (if inside then 1 else 0) * m ≤ (if inside then 1 else 0) * n
    by_set true order = omega (arith, order refl)
    by_set false order = omega arith

pub closed_sides_are_a_cut : ClosedSidesAreACut
closed_sides_are_a_cut set arcs counts within closed none_lacks node inside gathers =
    let k = suc node + (above (λ arc. arc.head) arcs + above (λ arc. arc.tail) arcs) in
    let p : ℕ → ℕ = member set in
    let into = priced_by_node k (λ arc. arc.head) p arcs counts (omega arith) in
    let out = priced_by_node k (λ arc. arc.tail) p arcs counts (omega arith) in
    let here : p node * outflow arcs counts node < p node * inflow arcs counts node = rw inside (omega (arith, gathers)) in
    let less = sum_to-lt k node (λ s. p s * outflow arcs counts s) (λ s. p s * inflow arcs counts s)
    (λ s. not_less set s (outflow arcs counts s) (inflow arcs counts s) (none_lacks s)) (omega arith) here in
    let sums = closed_sum set arcs counts within closed in
    (sums.0, sums.1, omega (arith, into, out, less, sums.2))
