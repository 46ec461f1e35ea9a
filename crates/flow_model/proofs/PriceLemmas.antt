-- Each arc's cost grows at least as fitting prices say, since it is convex.
use Rattle.std.proofs.Common.{◌≡◌, ℕ, zero, suc, ◌+◌, ◌-◌, ◌*◌, ◌<◌, ◌≤◌, Option, None, Some, refl, arith, ap, inl, inr, add-zero, ◌⊎◌}
use Rattle.std.specs.Prelude.{ℤ, pos, negsuc, ◌-ℤ◌, ◌≤ℤ◌}
use Rattle.std.proofs.lemmas.Bool.{cases_lt}
use Rattle.std.proofs.lemmas.Int.{ints}
use Rattle.flow_model.specs.declared.arc.Arc.{Arc}
use Rattle.flow_model.specs.Circulation.{IsAtMost, IsWithin, cost_on}
use Rattle.flow_model.specs.Prices.{IsBelow, FitsOn}

-- ---- the cost is convex

-- a cost by its parts: the same as `cost_on`, over plain numbers
pub cost_by : ℕ → ℕ → ℕ → ℕ → ℕ
cost_by up down weight n = up * (n - weight) + down * (weight - n)

pub cost_by-is : (arc : Arc) (n : ℕ) → cost_by arc.up arc.down arc.weight n ≡ cost_on arc n
unfolding cost_by
cost_by-is arc n = refl

rises : (up down weight n : ℕ) → weight ≤ n → cost_by up down weight (n + 1) ≡ cost_by up down weight n + up
unfolding cost_by
rises up down weight n past =
    let more : (n + 1) - weight ≡ suc (n - weight) = omega arith in
    let none : weight - (n + 1) ≡ 0 = omega arith in
    let nothing : weight - n ≡ 0 = omega arith in
    rw (more, none, nothing) (omega arith)

falls : (up down weight n : ℕ) → n < weight → cost_by up down weight n ≡ cost_by up down weight (n + 1) + down
unfolding cost_by
falls up down weight n before =
    let more : weight - n ≡ suc (weight - (n + 1)) = omega arith in
    let none : n - weight ≡ 0 = omega arith in
    let nothing : (n + 1) - weight ≡ 0 = omega arith in
    rw (more, none, nothing) (omega arith)

-- a step further up costs no less than an earlier one
convex : (up down weight n k : ℕ) → n ≤ k
    → cost_by up down weight (n + 1) + cost_by up down weight k ≤ cost_by up down weight n + cost_by up down weight (k + 1)
convex up down weight n k order =
    elim (cases_lt n weight) [
      | inl before ↦ elim (cases_lt k weight) [
        | inl also ↦ omega (arith, falls up down weight n before, falls up down weight k also)
        | inr past ↦ omega (arith, falls up down weight n before, rises up down weight k past)
      ]
      | inr past ↦ omega (arith, rises up down weight n past, rises up down weight k (omega (arith, past, order)))
    ]

-- so many steps up cost at least what the first one does, each
walk_up : (up down weight a b n j : ℕ) → a + cost_by up down weight n ≤ b + cost_by up down weight (n + 1)
    → j * a + cost_by up down weight n ≤ j * b + cost_by up down weight (n + j)
walk_up up down weight a b n zero first = rw (add-zero n) (omega arith)
walk_up up down weight a b n (suc j) first =
    let before = walk_up up down weight a b n j first in
    let bend = convex up down weight n (n + j) (omega arith) in
    let step : n + suc j ≡ n + j + 1 = omega arith in
    rw step (omega (arith, before, bend, first))

-- so many steps down save at most what the first one does, each
walk_down : (up down weight a b m j : ℕ) → b + cost_by up down weight (m + j + 1) ≤ a + cost_by up down weight (m + j)
    → suc j * b + cost_by up down weight (m + j + 1) ≤ suc j * a + cost_by up down weight m
walk_down up down weight a b m zero first = let e : m + 0 ≡ m = omega arith in let at = rw e at first in rw e (omega (arith, at))
walk_down up down weight a b m (suc j) first =
    let shift : m + suc j ≡ (m + 1) + j = omega arith in
    let at = rw shift at first in
    let before = walk_down up down weight a b (m + 1) j at in
    let bend = convex up down weight m (m + 1 + j) (omega arith) in
    rw shift (omega (arith, before, bend, at))

-- ---- prices as differences of natural numbers

pub gain : ℤ → ℕ
gain (pos n) = n
gain (negsuc n) = 0

pub loss : ℤ → ℕ
loss (pos n) = 0
loss (negsuc n) = suc n

-- what an order of differences says of natural numbers
natural : (head tail : ℤ) (more now : ℕ) → (head -ℤ tail) ≤ℤ (pos more -ℤ pos now) → gain head + loss tail + now ≤ gain tail + loss head + more
unfolding gain loss
natural (pos h) (pos t) more now order = omega (arith, ints, order)
natural (pos h) (negsuc t) more now order = omega (arith, ints, order)
natural (negsuc h) (pos t) more now order = omega (arith, ints, order)
natural (negsuc h) (negsuc t) more now order = omega (arith, ints, order)

-- ---- one arc

below_upper : (upper : Option ℕ) (n m : ℕ) → IsAtMost upper m → n < m → IsBelow upper n
below_upper None n m most less = tt
below_upper (Some upper) n m most less = omega (arith, most, less)

-- a larger count
costs_above : (price : ℕ → ℤ) (arc : Arc) (n j : ℕ) → IsAtMost arc.upper (n + suc j) → FitsOn price arc n
    → let a = gain (price arc.head) + loss (price arc.tail) in
    let b = gain (price arc.tail) + loss (price arc.head) in
    suc j * a + cost_by arc.up arc.down arc.weight n ≤ suc j * b + cost_by arc.up arc.down arc.weight (n + suc j)
costs_above price arc n j most fits =
    let order = fits.more (below_upper arc.upper n (n + suc j) most (omega arith)) in
    let first = natural (price arc.head) (price arc.tail) (cost_on arc (n + 1)) (cost_on arc n) order in
    let here = cost_by-is arc n in
    let next = cost_by-is arc (n + 1) in
    walk_up arc.up arc.down arc.weight (gain (price arc.head) + loss (price arc.tail)) (gain (price arc.tail) + loss (price arc.head)) n (suc j)
    (omega (arith, first, here, next))

-- a smaller count
costs_below : (price : ℕ → ℤ) (arc : Arc) (m j : ℕ) → arc.lower ≤ m → FitsOn price arc (m + j + 1)
    → let a = gain (price arc.head) + loss (price arc.tail) in
    let b = gain (price arc.tail) + loss (price arc.head) in
    suc j * b + cost_by arc.up arc.down arc.weight (m + j + 1) ≤ suc j * a + cost_by arc.up arc.down arc.weight m
costs_below price arc m j least fits =
    let order = fits.less (omega (arith, least)) in
    let less : (m + j + 1) - 1 ≡ m + j = omega arith in
    let first = natural (price arc.tail) (price arc.head) (cost_on arc ((m + j + 1) - 1)) (cost_on arc (m + j + 1)) order in
    let at = rw less at first in
    let here = cost_by-is arc (m + j) in
    let top = cost_by-is arc (m + j + 1) in
    walk_down arc.up arc.down arc.weight (gain (price arc.head) + loss (price arc.tail)) (gain (price arc.tail) + loss (price arc.head)) m j
    (omega (arith, at, here, top))

-- two counts in order
order_of : (n m : ℕ) → ((j : ℕ) × (m ≡ n + suc j)) ⊎ ((n ≡ m) ⊎ ((j : ℕ) × (n ≡ m + j + 1)))
order_of zero zero = inr (inl refl)
order_of zero (suc m) = inl (m, omega arith)
order_of (suc n) zero = inr (inr (n, omega arith))
order_of (suc n) (suc m) =
    elim (order_of n m) [
      | inl more ↦ inl (more.0, omega (arith, more.1))
      | inr rest ↦ elim rest [
        | inl same ↦ inr (inl (ap suc same))
        | inr less ↦ inr (inr (less.0, omega (arith, less.1)))
      ]
    ]

-- against each other count within the bounds
pub arc_costs : (price : ℕ → ℤ) (arc : Arc) (n m : ℕ) → IsWithin arc n → IsWithin arc m → FitsOn price arc n
    → let a = gain (price arc.head) + loss (price arc.tail) in
    let b = gain (price arc.tail) + loss (price arc.head) in
    a * m + b * n + cost_by arc.up arc.down arc.weight n ≤ b * m + a * n + cost_by arc.up arc.down arc.weight m
arc_costs price arc n m here there fits = on (order_of n m)
  where
    a : ℕ
    a = gain (price arc.head) + loss (price arc.tail)

    b : ℕ
    b = gain (price arc.tail) + loss (price arc.head)

    on : ((j : ℕ) × (m ≡ n + suc j)) ⊎ ((n ≡ m) ⊎ ((j : ℕ) × (n ≡ m + j + 1)))
        → a * m + b * n + cost_by arc.up arc.down arc.weight n ≤ b * m + a * n + cost_by arc.up arc.down arc.weight m
    on (inl (j, e)) =
        let most = rw e at there.1 in
        let grown = costs_above price arc n j most fits in
        rw e (omega (arith, grown))
    on (inr (inl e)) = rw e (omega arith)
    on (inr (inr (j, e))) =
        let fits_there = rw e at fits in
        let saved = costs_below price arc m j there.0 fits_there in
        rw e (omega (arith, saved))
