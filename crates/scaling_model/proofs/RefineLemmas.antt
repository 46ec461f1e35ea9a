-- Counts that are doubled and set right.
use Rattle.std.proofs.Common.{◌≡◌, ℕ, ◌+◌, ◌-◌, ◌*◌, ◌/◌, ◌<◌, ◌≤◌, Bool, true, false, ◌&&◌, Option, None, Some, if◌then◌else◌, refl, arith, ap, sym, subst, inl, inr}
use Rattle.std.specs.Prelude.{ℤ, pos, ◌-ℤ◌, ◌≤ℤ◌, neg_ℤ, int_lt, nat_lt}
use Rattle.std.specs.Option.{option_map}
use Rattle.std.proofs.lemmas.Bool.{cases_lt, cond_both, lt-ltb, le-ltb, ltb-true, ltb-false}
use Rattle.std.proofs.lemmas.Int.{ints}
use Rattle.block_model.specs.Judging.{exceeds}
use Rattle.flow_model.specs.declared.arc.Arc.{Arc}
use Rattle.flow_model.specs.Circulation.{IsAtMost, IsWithin, cost_on}
use Rattle.flow_model.specs.Network.{free_arc}
use Rattle.flow_model.specs.Prices.{FitsOn, IsBelow}
use Rattle.flow_model.specs.Sound.{IsSoundUpper}
use Rattle.residual_model.proofs.PushLemmas.{more_above, more_below, less_above, less_below}
use Rattle.scaling_model.specs.Laws.{half_up, halved_arc, IsHalfOf, IsRefined, RefinedCountsFit}
use Rattle.scaling_model.specs.Refining.{refined, rise_on, set_right}

-- ---- what fitting prices mean by the rise and the weight

-- by how much the price can rise on an arc with this count
pub record AllowsRise (rise : ℤ) (arc : Arc) (n : ℕ) : Type 0 where
  pub up_below : IsBelow arc.upper n → n < arc.weight → rise ≤ℤ neg_ℤ (pos arc.down)
  pub up_above : IsBelow arc.upper n → arc.weight ≤ n → rise ≤ℤ pos arc.up
  pub down_below : arc.lower < n → n ≤ arc.weight → neg_ℤ (pos arc.down) ≤ℤ rise
  pub down_above : arc.lower < n → arc.weight < n → pos arc.up ≤ℤ rise

allows : (price : ℕ → ℤ) (arc : Arc) (n : ℕ) → FitsOn price arc n → AllowsRise (rise_on price arc) arc n
allows price arc n fits = record {
  up_below = λ below before. let fit = fits.more below in let cost = more_below arc n before in omega (arith, ints, fit, cost);
  up_above = λ below past. let fit = fits.more below in let cost = more_above arc n past in omega (arith, ints, fit, cost);
  down_below = λ above within.
      let fit = fits.less above in let cost = less_below arc n (omega (arith, above)) within in omega (arith, ints, fit, cost);
  down_above = λ above past. let fit = fits.less above in let cost = less_above arc n past in omega (arith, ints, fit, cost);
}

fits_by_rise : (price : ℕ → ℤ) (arc : Arc) (n : ℕ) → AllowsRise (rise_on price arc) arc n → FitsOn price arc n
fits_by_rise price arc n allowed = record {
  more = λ below.
      elim (cases_lt n arc.weight) [
        | inl before ↦ let rise = allowed.up_below below before in let cost = more_below arc n before in omega (arith, ints, rise, cost)
        | inr past ↦ let rise = allowed.up_above below past in let cost = more_above arc n past in omega (arith, ints, rise, cost)
      ];
  less = λ above.
      elim (cases_lt arc.weight n) [
        | inl past ↦ let rise = allowed.down_above above past in let cost = less_above arc n past in omega (arith, ints, rise, cost)
        | inr within ↦
            let rise = allowed.down_below above within in
            let cost = less_below arc n (omega (arith, above)) within in
            omega (arith, ints, rise, cost)
      ];
}

-- ---- bounds in units of twice the size

below_half : (upper : Option ℕ) (n k : ℕ) → IsBelow upper k → 2 * n ≤ k → IsBelow (option_map half_up upper) n
below_half None n k below least = tt
below_half (Some upper) n k below least = omega (arith, below, least)

at_most_double : (upper : Option ℕ) (n : ℕ) → exceeds n upper ≡ false → IsAtMost upper n
at_most_double None n is = tt
at_most_double (Some upper) n is = ltb-false upper n is

-- a double above the upper bound is one unit above it
pub record IsOneAbove (upper : Option ℕ) (lower n : ℕ) : Type 0 where
  pub some : 0 < n
  pub least : lower ≤ 2 * n - 1
  pub most : IsAtMost upper (2 * n - 1)
  pub full : IsBelow upper (2 * n - 1) → ⊥
  pub below : (k : ℕ) → k < n → IsBelow (option_map half_up upper) k

one_above : (upper : Option ℕ) (lower n : ℕ) → IsSoundUpper lower upper → IsAtMost (option_map half_up upper) n → exceeds (2 * n) upper ≡ true
    → IsOneAbove upper lower n
one_above None lower n sound within over = absurd (cc)
one_above (Some upper) lower n sound within over =
    let past = ltb-true upper (2 * n) over in
    record {
      some = omega (arith, past);
      least = omega (arith, sound.0, within, past);
      most = omega (arith, within, past);
      full = λ below. omega (arith, below, within, past);
      below = λ k less. omega (arith, less, within, past);
    }

-- ---- the cases

last_of_three : (a b c : Bool) → (a && (b && c)) ≡ false → a ≡ true → b ≡ true → c ≡ false
last_of_three true true c none first second = none
last_of_three true false c none first second = absurd (cc)
last_of_three false b c none first second = absurd (cc)

-- what all three tell
all_three : (a b c : Bool) → (a && (b && c)) ≡ true → (a ≡ true) × (b ≡ true) × (c ≡ true)
all_three true true true all = (refl, refl, refl)
all_three true true false all = absurd (cc)
all_three true false c all = absurd (cc)
all_three false b c all = absurd (cc)

-- a count that is right for the rise, at most one unit away from a double
record IsRight (rise : ℤ) (arc : Arc) (n m : ℕ) : Type 0 where
  pub within : IsWithin arc m
  pub allowed : AllowsRise rise arc m
  pub least : 2 * n ≤ m + 1
  pub most : m ≤ 2 * n + 1

-- what a count in units of twice the size tells
record IsFitHalf (rise : ℤ) (arc : Arc) (n : ℕ) : Type 0 where
  pub sound : IsSoundUpper arc.lower arc.upper
  pub within : IsWithin (halved_arc arc) n
  pub allowed : AllowsRise rise (halved_arc arc) n

sound_at_most : (upper : Option ℕ) (lower : ℕ) → IsSoundUpper lower upper → IsAtMost upper lower
sound_at_most None lower sound = tt
sound_at_most (Some upper) lower sound = sound.0

at_most_less : (upper : Option ℕ) (n m : ℕ) → IsAtMost upper n → m ≤ n → IsAtMost upper m
at_most_less None n m most less = tt
at_most_less (Some upper) n m most less = omega (arith, most, less)

-- what one more costs at most, and what one less saves at most
rise_most : (rise : ℤ) (arc : Arc) (n : ℕ) → AllowsRise rise arc n → IsBelow arc.upper n → rise ≤ℤ pos arc.up
rise_most rise arc n allowed below =
    elim (cases_lt n arc.weight) [
      | inl before ↦ let at = allowed.up_below below before in omega (arith, ints, at)
      | inr past ↦ allowed.up_above below past
    ]

rise_least : (rise : ℤ) (arc : Arc) (n : ℕ) → AllowsRise rise arc n → arc.lower < n → neg_ℤ (pos arc.down) ≤ℤ rise
rise_least rise arc n allowed above =
    elim (cases_lt arc.weight n) [
      | inl past ↦ let at = allowed.down_above above past in omega (arith, ints, at)
      | inr within ↦ allowed.down_below above within
    ]

raised_right : (rise : ℤ) (arc : Arc) (n : ℕ) → IsFitHalf rise arc n → 2 * n < arc.lower → IsRight rise arc n (2 * n + 1)
raised_right rise arc n fit low =
    let least = fit.within.0 in
    let is : arc.lower ≡ 2 * n + 1 = omega (arith, least, low) in
    record {
      within = (omega (arith, is), subst (λ (m : ℕ). IsAtMost arc.upper m) is (sound_at_most arc.upper arc.lower fit.sound));
      allowed = record {
        up_below = λ below before.
            fit.allowed.up_below (below_half arc.upper n (2 * n + 1) below (omega arith)) (omega (arith, before));
        up_above = λ below past. rise_most rise (halved_arc arc) n fit.allowed (below_half arc.upper n (2 * n + 1) below (omega arith));
        down_below = λ above within. absurd (omega (arith, above, is));
        down_above = λ above past. absurd (omega (arith, above, is));
      };
      least = omega arith;
      most = omega arith;
    }

above_right : (rise : ℤ) (arc : Arc) (n : ℕ) → IsFitHalf rise arc n → exceeds (2 * n) arc.upper ≡ true → IsRight rise arc n (2 * n - 1)
above_right rise arc n fit over =
    let one = one_above arc.upper arc.lower n fit.sound fit.within.1 over in
    let some = one.some in
    record {
      within = (one.least, one.most);
      allowed = record {
        up_below = λ below before. absurd (one.full below);
        up_above = λ below past. absurd (one.full below);
        down_below = λ above within. rise_least rise (halved_arc arc) n fit.allowed (omega (arith, above, some));
        down_above = λ above past. fit.allowed.down_above (omega (arith, above, some)) (omega (arith, past, some));
      };
      least = omega (arith, some);
      most = omega arith;
    }

lowered_right : (rise : ℤ) (arc : Arc) (n : ℕ) → IsFitHalf rise arc n → IsAtMost arc.upper (2 * n) → arc.lower < 2 * n → arc.weight < 2 * n
    → int_lt rise (pos arc.up) ≡ true → IsRight rise arc n (2 * n - 1)
lowered_right rise arc n fit at_most above past dear =
    record {
      within = (omega (arith, above), at_most_less arc.upper (2 * n) (2 * n - 1) at_most (omega arith));
      allowed = record {
        up_below = λ below before. absurd (omega (arith, past, before));
        up_above = λ below beyond. omega (arith, ints, dear);
        down_below = λ over within. rise_least rise (halved_arc arc) n fit.allowed (omega (arith, over, above));
        down_above = λ over beyond. fit.allowed.down_above (omega (arith, over, above)) (omega (arith, beyond, past));
      };
      least = omega (arith, above);
      most = omega arith;
    }

kept_right : (rise : ℤ) (arc : Arc) (n : ℕ) → IsFitHalf rise arc n → arc.lower ≤ 2 * n → IsAtMost arc.upper (2 * n)
    → (arc.lower < 2 * n → arc.weight < 2 * n → int_lt rise (pos arc.up) ≡ false) → IsRight rise arc n (2 * n)
kept_right rise arc n fit at_least at_most cheap =
    record {
      within = (at_least, at_most);
      allowed = record {
        up_below = λ below before.
            fit.allowed.up_below (below_half arc.upper n (2 * n) below (omega arith)) (omega (arith, before));
        up_above = λ below past. rise_most rise (halved_arc arc) n fit.allowed (below_half arc.upper n (2 * n) below (omega arith));
        down_below = λ above within. rise_least rise (halved_arc arc) n fit.allowed (omega (arith, above));
        down_above = λ above past. let is = cheap above past in omega (arith, ints, is);
      };
      least = omega arith;
      most = omega arith;
    }

-- where all three tests pass, and where one fails
lowered_tests : (rise : ℤ) (arc : Arc) (k : ℕ) → (nat_lt arc.lower k && (nat_lt arc.weight k && int_lt rise (pos arc.up))) ≡ true
    → (arc.lower < k) × (arc.weight < k) × (int_lt rise (pos arc.up) ≡ true)
lowered_tests rise arc k all =
    let each = all_three _ _ _ all in (ltb-true arc.lower k each.0, ltb-true arc.weight k each.1, each.2)

kept_tests : (rise : ℤ) (arc : Arc) (k : ℕ) → (nat_lt arc.lower k && (nat_lt arc.weight k && int_lt rise (pos arc.up))) ≡ false
    → arc.lower < k → arc.weight < k → int_lt rise (pos arc.up) ≡ false
kept_tests rise arc k none above past = last_of_three _ _ _ none (lt-ltb arc.lower k above) (lt-ltb arc.weight k past)

half_right : (rise : ℤ) (arc : Arc) (n : ℕ) → IsFitHalf rise arc n → IsRight rise arc n (refined rise arc n)
half_right rise arc n fit =
    let k = 2 * n in
    let Right : ℕ → Type 0 = λ m. IsRight rise arc n m in
    cond_both (nat_lt k arc.lower) (k + 1) _ Right (λ low. raised_right rise arc n fit (ltb-true k arc.lower low))
    (λ high. cond_both (exceeds k arc.upper) (k - 1) _ Right (λ over. above_right rise arc n fit over)
    (λ under.
    let at_most = at_most_double arc.upper k under in
    cond_both (nat_lt arc.lower k && (nat_lt arc.weight k && int_lt rise (pos arc.up))) (k - 1) k Right
    (λ all. let is = lowered_tests rise arc k all in lowered_right rise arc n fit at_most is.0 is.1 is.2)
    (λ none. kept_right rise arc n fit (ltb-false k arc.lower high) at_most (kept_tests rise arc k none))))

-- an arc that costs nothing, the same in units of any size
free_right : (rise : ℤ) (tail head lower n : ℕ) → lower ≤ 1 → lower ≤ n → AllowsRise rise (free_arc tail head lower) n
    → IsRight rise (free_arc tail head lower) n (refined rise (free_arc tail head lower) n)
free_right rise tail head lower n one least allowed =
    let arc = free_arc tail head lower in
    let k = 2 * n in
    let Right : ℕ → Type 0 = λ m. IsRight rise arc n m in
    cond_both (nat_lt k lower) (k + 1) _ Right (λ low. absurd (let below = ltb-true k lower low in omega (arith, below, least)))
    (λ high. cond_both (nat_lt lower k && (nat_lt 0 k && int_lt rise (pos 0))) (k - 1) k Right
    (λ all.
    let is = lowered_tests rise arc k all in
    let above = is.0 in
    let dear = is.2 in
    record {
      within = (omega (arith, above), tt);
      allowed = record {
        up_below = λ below before. absurd (omega (arith, before));
        up_above = λ below past. omega (arith, ints, dear);
        down_below = λ over within. absurd (omega (arith, over, within));
        down_above = λ over past. allowed.down_above (omega (arith, over, one)) (omega (arith, over));
      };
      least = omega (arith, above);
      most = omega arith;
    })
    (λ none. record {
      within = (omega (arith, least), tt);
      allowed = record {
        up_below = λ below before. absurd (omega (arith, before));
        up_above = λ below past. allowed.up_above tt (omega arith);
        down_below = λ over within. absurd (omega (arith, over, within));
        down_above = λ over past. let is = kept_tests rise arc k none over past in omega (arith, ints, is);
      };
      least = omega arith;
      most = omega arith;
    }))

refined_by : (price : ℕ → ℤ) (arc : Arc) (n m : ℕ) → IsRight (rise_on price arc) arc n m → IsRefined price arc n m
refined_by price arc n m right = record {
  within = right.within;
  fits = fits_by_rise price arc m right.allowed;
  least = right.least;
  most = right.most;
}

pub refined_counts_fit : RefinedCountsFit
refined_counts_fit price half arc n sound (inl is) within fits =
    let within_half : IsWithin (halved_arc arc) n = subst (λ (a : Arc). IsWithin a n) is within in
    let fits_half : FitsOn price (halved_arc arc) n = subst (λ (a : Arc). FitsOn price a n) is fits in
    refined_by price arc n _
    (half_right (rise_on price arc) arc n (record { sound = sound; within = within_half; allowed = allows price (halved_arc arc) n fits_half }))
refined_counts_fit price half arc n sound (inr (lower, one, is, same)) within fits =
    let free = free_arc arc.tail arc.head lower in
    let within_free : IsWithin free n = subst (λ (a : Arc). IsWithin a n) is within in
    let fits_free : FitsOn price free n = subst (λ (a : Arc). FitsOn price a n) is fits in
    let right = refined_by price free n _
    (free_right (rise_on price free) arc.tail arc.head lower n one within_free.0 (allows price free n fits_free)) in
    subst (λ (a : Arc). IsRefined price a n (refined (rise_on price a) a n)) (sym same) right
