-- Counts to start from, and pushes that keep prices fitting.
use Rattle.std.proofs.Common.{◌≡◌, ℕ, ◌+◌, ◌-◌, ◌*◌, ◌<◌, ◌≤◌, Option, None, Some, refl, arith, ap, inl, inr}
use Rattle.std.specs.Prelude.{pos, ◌-ℤ◌, ◌≤ℤ◌, neg_ℤ, max}
use Rattle.std.proofs.lemmas.Bool.{cases_lt}
use Rattle.std.proofs.lemmas.Int.{ints}
use Rattle.flow_model.specs.declared.arc.Arc.{Arc}
use Rattle.flow_model.specs.Circulation.{IsAtMost, cost_on}
use Rattle.flow_model.specs.Prices.{IsBelow}
use Rattle.flow_model.specs.Sound.{IsSoundUpper}
use Rattle.residual_model.specs.Residual.{cost_of_more, cost_of_less, capped, starting, TakesMore, TakesLess}
use Rattle.residual_model.specs.Laws.{StartingCountsFit, PushesAlongFit, PushesAgainstFit}

-- ---- what a unit costs

pub rises : (up down weight n : ℕ) → weight ≤ n
    → up * ((n + 1) - weight) + down * (weight - (n + 1)) ≡ up * (n - weight) + down * (weight - n) + up
rises up down weight n past =
    let more : (n + 1) - weight ≡ (n - weight) + 1 = omega arith in
    let none : weight - (n + 1) ≡ 0 = omega arith in
    let nothing : weight - n ≡ 0 = omega arith in
    rw (more, none, nothing) (omega arith)

pub falls : (up down weight n : ℕ) → n < weight
    → up * (n - weight) + down * (weight - n) ≡ up * ((n + 1) - weight) + down * (weight - (n + 1)) + down
falls up down weight n before =
    let more : weight - n ≡ (weight - (n + 1)) + 1 = omega arith in
    let none : n - weight ≡ 0 = omega arith in
    let nothing : (n + 1) - weight ≡ 0 = omega arith in
    rw (more, none, nothing) (omega arith)

pub more_above : (arc : Arc) (n : ℕ) → arc.weight ≤ n → cost_of_more arc n ≡ pos arc.up
more_above arc n past = let step = rises arc.up arc.down arc.weight n past in omega (arith, ints, step)

pub more_below : (arc : Arc) (n : ℕ) → n < arc.weight → cost_of_more arc n ≡ neg_ℤ (pos arc.down)
more_below arc n before = let step = falls arc.up arc.down arc.weight n before in omega (arith, ints, step)

less_by : (arc : Arc) (n m : ℕ) → n ≡ m + 1 → cost_of_less arc n ≡ pos (cost_on arc m) -ℤ pos (cost_on arc n)
less_by arc n m e = let before : n - 1 ≡ m = omega (arith, e) in rw before refl

pub less_below : (arc : Arc) (n : ℕ) → 0 < n → n ≤ arc.weight → cost_of_less arc n ≡ pos arc.down
less_below arc n some within =
    let e : n ≡ (n - 1) + 1 = omega (arith, some) in
    let step = falls arc.up arc.down arc.weight (n - 1) (omega (arith, e, within)) in
    let at : cost_on arc n ≡ cost_on arc ((n - 1) + 1) = ap (cost_on arc) e in
    omega (arith, ints, step, at)

pub less_above : (arc : Arc) (n : ℕ) → arc.weight < n → cost_of_less arc n ≡ neg_ℤ (pos arc.up)
less_above arc n past =
    let e : n ≡ (n - 1) + 1 = omega (arith, past) in
    let step = rises arc.up arc.down arc.weight (n - 1) (omega (arith, e, past)) in
    let at : cost_on arc n ≡ cost_on arc ((n - 1) + 1) = ap (cost_on arc) e in
    omega (arith, ints, step, at)

-- ---- the start

capped_within : (upper : Option ℕ) (lower n : ℕ) → IsSoundUpper lower upper → lower ≤ n → (lower ≤ capped upper n) × IsAtMost upper (capped upper n)
capped_within None lower n sound least = (least, tt)
capped_within (Some upper) lower n sound least = (omega (arith, sound.0, least), omega arith)

-- one more may pass only from the weight on
capped_more : (upper : Option ℕ) (n : ℕ) → IsBelow upper (capped upper n) → n ≤ capped upper n
capped_more None n below = omega arith
capped_more (Some upper) n below = omega (arith, below)

pub capped_less : (upper : Option ℕ) (n : ℕ) → capped upper n ≤ n
capped_less None n = omega arith
capped_less (Some upper) n = omega arith

pub starting_counts_fit : StartingCountsFit
starting_counts_fit arc sound =
    let most = max arc.weight arc.lower in
    let n = starting arc in (
      capped_within arc.upper arc.lower most sound (omega arith),
      record {
        more = λ below.
            let past = capped_more arc.upper most below in
            let cost = more_above arc n (omega (arith, past)) in
            omega (arith, ints, cost);
        less = λ above.
            let before = capped_less arc.upper most in
            let cost = less_below arc n (omega (arith, above)) (omega (arith, above, before)) in
            omega (arith, ints, cost);
      },
    )

-- ---- pushes

-- one more costs no less further up
more_grows : (arc : Arc) (n amount : ℕ) → cost_of_more arc n ≤ℤ cost_of_more arc (n + amount)
more_grows arc n amount =
    elim (cases_lt n arc.weight) [
      | inl before ↦ elim (cases_lt (n + amount) arc.weight) [
        | inl also ↦ omega (arith, ints, more_below arc n before, more_below arc (n + amount) also)
        | inr past ↦ omega (arith, ints, more_below arc n before, more_above arc (n + amount) past)
      ]
      | inr past ↦ omega (arith, ints, more_above arc n past, more_above arc (n + amount) (omega (arith, past)))
    ]

-- one less costs no less further down
less_grows : (arc : Arc) (n m : ℕ) → 0 < m → m ≤ n → cost_of_less arc n ≤ℤ cost_of_less arc m
less_grows arc n m some order =
    elim (cases_lt arc.weight m) [
      | inl past ↦ omega (arith, ints, less_above arc m past, less_above arc n (omega (arith, past, order)))
      | inr within ↦ elim (cases_lt arc.weight n) [
        | inl past ↦ omega (arith, ints, less_above arc n past, less_below arc m some within)
        | inr also ↦ omega (arith, ints, less_below arc n (omega (arith, some, order)) also, less_below arc m some within)
      ]
    ]

-- what was pushed along goes back at the same cost
back_again : (arc : Arc) (n amount : ℕ) → 0 < amount → TakesMore arc n amount → cost_of_less arc (n + amount) ≡ neg_ℤ (cost_of_more arc n)
back_again arc n amount some takes =
    elim (cases_lt n arc.weight) [
      | inl before ↦ omega (arith, ints, more_below arc n before, less_below arc (n + amount) (omega (arith, some)) (takes.alike before))
      | inr past ↦ omega (arith, ints, more_above arc n past, less_above arc (n + amount) (omega (arith, past, some)))
    ]

forth_again : (arc : Arc) (n amount : ℕ) → 0 < amount → TakesLess arc n amount → cost_of_more arc (n - amount) ≡ neg_ℤ (cost_of_less arc n)
forth_again arc n amount some takes =
    elim (cases_lt arc.weight n) [
      | inl past ↦ omega (arith, ints, less_above arc n past, more_above arc (n - amount) (omega (arith, takes.alike past)))
      | inr within ↦ omega (arith, ints, less_below arc n (omega (arith, some, takes.bounded)) within, more_below arc (n - amount) (omega (arith, some, within, takes.bounded)))
    ]

below_before : (upper : Option ℕ) (n amount : ℕ) → IsBelow upper (n + amount) → IsBelow upper n
below_before None n amount below = tt
below_before (Some upper) n amount below = omega (arith, below)

at_most_before : (upper : Option ℕ) (n amount : ℕ) → IsAtMost upper n → IsAtMost upper (n - amount)
at_most_before None n amount most = tt
at_most_before (Some upper) n amount most = omega (arith, most)

pub pushes_along_fit : PushesAlongFit
pushes_along_fit price arc n amount within fits some takes tight = (
  (omega (arith, within.0), takes.bounded),
  record {
    more = λ below.
        let first = fits.more (below_before arc.upper n amount below) in
        let grown = more_grows arc n amount in
        omega (arith, ints, first, grown);
    less = λ above.
        let back = back_again arc n amount some takes in
        omega (arith, ints, back, tight);
  },
)

pub pushes_against_fit : PushesAgainstFit
pushes_against_fit price arc n amount within fits some takes tight = (
  (omega (arith, takes.bounded), at_most_before arc.upper n amount within.1),
  record {
    more = λ below.
        let forth = forth_again arc n amount some takes in
        omega (arith, ints, forth, tight);
    less = λ above.
        let first = fits.less (omega (arith, takes.bounded, some)) in
        let grown = less_grows arc n (n - amount) (omega (arith, above)) (omega arith) in
        omega (arith, ints, first, grown);
  },
)
