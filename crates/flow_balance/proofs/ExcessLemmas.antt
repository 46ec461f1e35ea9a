-- The excess of sides: what a transfer changes, and what all sides have together.
use Rattle.std.proofs.Common.{◌≡◌, ◌≢◌, ℕ, ◌+◌, ◌<◌, ◌≤◌, ◌==◌, eq-eqb, List, length, ◌⊎◌, inl, inr, refl, arith, ap, sym}
use Rattle.std.specs.Prelude.{slice_set, ℤ, pos, negsuc, ◌+ℤ◌, ◌-ℤ◌, ◌≤ℤ◌, ◌<ℤ◌}
use Rattle.std.specs.List.{All}
use Rattle.std.proofs.lemmas.Bool.{ne_eqb, cases_eq, cases_lt}
use Rattle.std.proofs.lemmas.Int.{ints}
use Rattle.std.proofs.lemmas.List.{get_or-set_same, get_or-set_other, get_or_past, get_or_default, length-set}
use Rattle.std.proofs.lemmas.List.Sums.{sum_by-set, sum_by-le, get_or-le-sum_by}
use Rattle.path_search.specs.Ground.{price_at}
use Rattle.path_search.proofs.PathLemmas.{when}
use Rattle.flow_balance.specs.Excess.{surplus_of, lack_of, surplus, lack, raised, transferred}

-- ---- one side

pub parts : (z : ℤ) → (z +ℤ pos (lack_of z)) ≡ pos (surplus_of z)
parts (pos n) = omega (arith, ints)
parts (negsuc n) = omega (arith, ints)

pub not_both : (z : ℤ) → (surplus_of z ≡ 0) ⊎ (lack_of z ≡ 0)
not_both (pos n) = inr refl
not_both (negsuc n) = inl refl

surplus_grows : (z : ℤ) (amount : ℕ) → surplus_of (z +ℤ pos amount) ≤ surplus_of z + amount
surplus_grows z amount =
    let before = parts z in
    let after = parts (z +ℤ pos amount) in
    elim (not_both (z +ℤ pos amount)) [
      | inl none ↦ omega (arith, none)
      | inr none ↦ omega (arith, ints, before, after, none)
    ]

surplus_falls : (z : ℤ) (amount : ℕ) → surplus_of (z -ℤ pos amount) ≤ surplus_of z
surplus_falls z amount =
    let before = parts z in
    let after = parts (z -ℤ pos amount) in
    elim (not_both (z -ℤ pos amount)) [
      | inl none ↦ omega (arith, none)
      | inr none ↦ omega (arith, ints, before, after, none)
    ]

-- what a side lacks is filled
record IsFilled (z : ℤ) (amount : ℕ) : Type 0 where
  pub had_none : surplus_of z ≡ 0
  pub has_none : surplus_of (z +ℤ pos amount) ≡ 0
  pub less : lack_of (z +ℤ pos amount) + amount ≡ lack_of z

filled : (z : ℤ) (amount : ℕ) → 0 < amount → amount ≤ lack_of z → IsFilled z amount
filled z amount some lacks =
    let before = parts z in
    let after = parts (z +ℤ pos amount) in
    elim (not_both z) [
      | inl had ↦ elim (not_both (z +ℤ pos amount)) [
        | inl none ↦ record { had_none = had; has_none = none; less = omega (arith, ints, before, after, had, none, lacks) }
        | inr none ↦ record {
          had_none = had;
          has_none = omega (arith, ints, before, after, had, none, lacks);
          less = omega (arith, ints, before, after, had, none, lacks);
        }
      ]
      | inr had ↦ absurd (omega (arith, had, some, lacks))
    ]

-- what a side has too much is taken
record IsTakenOff (z : ℤ) (amount : ℕ) : Type 0 where
  pub lacked_none : lack_of z ≡ 0
  pub lacks_none : lack_of (z -ℤ pos amount) ≡ 0
  pub less : surplus_of (z -ℤ pos amount) + amount ≡ surplus_of z

taken_off : (z : ℤ) (amount : ℕ) → 0 < amount → amount ≤ surplus_of z → IsTakenOff z amount
taken_off z amount some has =
    let before = parts z in
    let after = parts (z -ℤ pos amount) in
    elim (not_both z) [
      | inl had ↦ absurd (omega (arith, had, some, has))
      | inr had ↦ elim (not_both (z -ℤ pos amount)) [
        | inl none ↦ record {
          lacked_none = had;
          lacks_none = omega (arith, ints, before, after, had, none, has);
          less = omega (arith, ints, before, after, had, none, has);
        }
        | inr none ↦ record { lacked_none = had; lacks_none = none; less = omega (arith, ints, before, after, had, none, has) }
      ]
    ]

-- ---- a transfer at each node

pub when_is : (side node amount : ℕ) → ((side ≡ node) × (when (side == node) amount ≡ amount)) ⊎ ((side ≢ node) × (when (side == node) amount ≡ 0))
when_is side node amount =
    elim (cases_eq side node) [
      | inl e ↦ inl (e, ap (λ b. when b amount) (eq-eqb side node e))
      | inr apart ↦ inr (apart, ap (λ b. when b amount) (ne_eqb side node apart))
    ]

raised_at : (excess : List ℤ) (side amount node : ℕ) → side < length excess
    → price_at (raised excess side (pos amount)) node ≡ (price_at excess node +ℤ pos (when (side == node) amount))
raised_at excess side amount node within =
    let value = price_at excess side +ℤ pos amount in
    elim (when_is side node amount) [
      | inl is ↦
          let same = get_or-set_same excess side value (pos 0) within in
          let there = ap (price_at (raised excess side (pos amount))) is.0 in
          let was = ap (price_at excess) is.0 in
          omega (arith, ints, same, there, was, is.1)
      | inr is ↦ let other = get_or-set_other excess side node value (pos 0) (λ e. is.0 (sym e)) in omega (arith, ints, other, is.1)
    ]

lowered_at : (excess : List ℤ) (side amount node : ℕ) → side < length excess
    → price_at (slice_set excess side (price_at excess side -ℤ pos amount)) node ≡ (price_at excess node -ℤ pos (when (side == node) amount))
lowered_at excess side amount node within =
    let value = price_at excess side -ℤ pos amount in
    elim (when_is side node amount) [
      | inl is ↦
          let same = get_or-set_same excess side value (pos 0) within in
          let there = ap (price_at (slice_set excess side value)) is.0 in
          let was = ap (price_at excess) is.0 in
          omega (arith, ints, same, there, was, is.1)
      | inr is ↦ let other = get_or-set_other excess side node value (pos 0) (λ e. is.0 (sym e)) in omega (arith, ints, other, is.1)
    ]

pub transferred_at : (excess : List ℤ) (from to amount node : ℕ) → from < length excess → to < length excess
    → price_at (transferred excess from to amount) node
    ≡ (price_at excess node +ℤ (pos (when (to == node) amount) -ℤ pos (when (from == node) amount)))
transferred_at excess from to amount node starts leads =
    let up = raised excess to (pos amount) in
    let long = length-set excess to (price_at excess to +ℤ pos amount) in
    let first = raised_at excess to amount node leads in
    let then_down = lowered_at up from amount node (omega (arith, starts, long)) in
    omega (arith, ints, first, then_down)

pub transferred-length : (excess : List ℤ) (from to amount : ℕ) → length (transferred excess from to amount) ≡ length excess
transferred-length excess from to amount =
    let up = raised excess to (pos amount) in
    let long = length-set excess to (price_at excess to +ℤ pos amount) in
    let same = length-set up from (price_at up from -ℤ pos amount) in
    omega (arith, long, same)

-- ---- a transfer on the whole

-- what a transfer changes in the sums
record AreSums (excess : List ℤ) (from to amount : ℕ) : Type 0 where
  pub surplus_up : surplus (raised excess to (pos amount)) + surplus_of (price_at excess to) ≡ surplus excess + surplus_of (price_at excess to +ℤ pos amount)
  pub lack_up : lack (raised excess to (pos amount)) + lack_of (price_at excess to) ≡ lack excess + lack_of (price_at excess to +ℤ pos amount)
  pub surplus_down : surplus (transferred excess from to amount) + surplus_of (price_at (raised excess to (pos amount)) from)
      ≡ surplus (raised excess to (pos amount)) + surplus_of (price_at (raised excess to (pos amount)) from -ℤ pos amount)
  pub lack_down : lack (transferred excess from to amount) + lack_of (price_at (raised excess to (pos amount)) from)
      ≡ lack (raised excess to (pos amount)) + lack_of (price_at (raised excess to (pos amount)) from -ℤ pos amount)

sums : (excess : List ℤ) (from to amount : ℕ) → from < length excess → to < length excess → AreSums excess from to amount
sums excess from to amount starts leads =
    let up = raised excess to (pos amount) in
    let long = length-set excess to (price_at excess to +ℤ pos amount) in
    let inside : from < length up = omega (arith, starts, long) in
    record {
      surplus_up = sum_by-set surplus_of excess to (price_at excess to +ℤ pos amount) (pos 0) leads;
      lack_up = sum_by-set lack_of excess to (price_at excess to +ℤ pos amount) (pos 0) leads;
      surplus_down = sum_by-set surplus_of up from (price_at up from -ℤ pos amount) (pos 0) inside;
      lack_down = sum_by-set lack_of up from (price_at up from -ℤ pos amount) (pos 0) inside;
    }

pub transferred_even : (excess : List ℤ) (from to amount : ℕ) → from < length excess → to < length excess → surplus excess ≡ lack excess
    → (surplus (transferred excess from to amount) ≡ lack (transferred excess from to amount))
    × (surplus (transferred excess from to amount) ≤ surplus excess + amount)
transferred_even excess from to amount starts leads even =
    let all = sums excess from to amount starts leads in
    let e = price_at excess to in
    let f = price_at (raised excess to (pos amount)) from in
    let e_parts = parts e in
    let v_parts = parts (e +ℤ pos amount) in
    let f_parts = parts f in
    let w_parts = parts (f -ℤ pos amount) in
    let a = all.surplus_up in
    let b = all.lack_up in
    let c = all.surplus_down in
    let d = all.lack_down in (
      omega (arith, ints, a, b, c, d, e_parts, v_parts, f_parts, w_parts, even),
      (let grown = surplus_grows e amount in let fallen = surplus_falls f amount in omega (arith, a, c, grown, fallen)),
    )

-- where one side has the amount and the other one lacks it
pub record IsFair (excess : List ℤ) (from to amount : ℕ) : Type 0 where
  pub starts : from < length excess
  pub leads : to < length excess
  pub some : 0 < amount
  pub has : amount ≤ surplus_of (price_at excess from)
  pub lacks : amount ≤ lack_of (price_at excess to)

apart : (excess : List ℤ) (from to amount : ℕ) → IsFair excess from to amount → from ≢ to
apart excess from to amount fair e =
    let off = taken_off (price_at excess from) amount fair.some fair.has in
    let none = off.lacked_none in
    let same = ap (λ s. lack_of (price_at excess s)) e in
    let lacks = fair.lacks in
    let some = fair.some in
    omega (arith, none, same, lacks, some)

pub fair_sums : (excess : List ℤ) (from to amount : ℕ) → IsFair excess from to amount
    → (surplus (transferred excess from to amount) + amount ≡ surplus excess) × (lack (transferred excess from to amount) + amount ≡ lack excess)
fair_sums excess from to amount fair =
    let all = sums excess from to amount fair.starts fair.leads in
    let full = filled (price_at excess to) amount fair.some fair.lacks in
    let unchanged : price_at (raised excess to (pos amount)) from ≡ price_at excess from =
    get_or-set_other excess to from (price_at excess to +ℤ pos amount) (pos 0) (apart excess from to amount fair) in
    let surplus_same = ap surplus_of unchanged in
    let lack_same = ap lack_of unchanged in
    let surplus_after = ap (λ z. surplus_of (z -ℤ pos amount)) unchanged in
    let lack_after = ap (λ z. lack_of (z -ℤ pos amount)) unchanged in
    let off = taken_off (price_at excess from) amount fair.some fair.has in
    let a = all.surplus_up in
    let b = all.lack_up in
    let c = all.surplus_down in
    let d = all.lack_down in
    let had = full.had_none in
    let now = full.has_none in
    let rest = full.less in
    let lacked = off.lacked_none in
    let lacking = off.lacks_none in
    let left = off.less in (
      omega (arith, a, c, had, now, left, surplus_same, surplus_after),
      omega (arith, b, d, rest, lacked, lacking, lack_same, lack_after),
    )

-- no side gets excess
pub fair_kept : (excess : List ℤ) (from to amount : ℕ) → IsFair excess from to amount → (side : ℕ) → price_at excess side ≤ℤ pos 0
    → price_at (transferred excess from to amount) side ≤ℤ pos 0
fair_kept excess from to amount fair side least =
    let at = transferred_at excess from to amount side fair.starts fair.leads in
    elim (when_is to side amount) [
      | inl is ↦
          let here = ap (price_at excess) is.0 in
          let z_parts = parts (price_at excess to) in
          let full = filled (price_at excess to) amount fair.some fair.lacks in
          let none = full.had_none in
          let lacks = fair.lacks in
          omega (arith, ints, at, is.1, here, z_parts, none, lacks)
      | inr is ↦ omega (arith, ints, at, is.1, least)
    ]

-- and none comes to lack something
pub fair_lacks : (excess : List ℤ) (from to amount : ℕ) → IsFair excess from to amount → (side : ℕ)
    → price_at (transferred excess from to amount) side <ℤ pos 0 → price_at excess side <ℤ pos 0
fair_lacks excess from to amount fair side lacks =
    let at = transferred_at excess from to amount side fair.starts fair.leads in
    elim (when_is from side amount) [
      | inl is ↦
          let here = ap (price_at excess) is.0 in
          let z_parts = parts (price_at excess from) in
          let off = taken_off (price_at excess from) amount fair.some fair.has in
          let none = off.lacked_none in
          let has = fair.has in
          absurd (omega (arith, ints, at, is.1, here, z_parts, none, has, lacks))
      | inr is ↦ omega (arith, ints, at, is.1, lacks)
    ]

-- ---- the end

-- where no side has excess and all sides are even, none lacks anything
pub none_lacks : (excess : List ℤ) → surplus excess ≡ lack excess → ((side : ℕ) → side < length excess → price_at excess side ≤ℤ pos 0)
    → (side : ℕ) → price_at excess side ≡ pos 0
none_lacks excess even most side =
    let none : All (λ z. surplus_of z ≤ 0) excess = λ k d within.
    let same = ap surplus_of (get_or_default excess k d (pos 0) within) in
    let z_parts = parts (price_at excess k) in
    let least = most k within in
    elim (not_both (price_at excess k)) [
      | inl zero ↦ omega (arith, same, zero)
      | inr zero ↦ omega (arith, ints, same, z_parts, zero, least)
    ] in
    let no_surplus = sum_by-le surplus_of 0 excess none in
    elim (cases_lt side (length excess)) [
      | inl within ↦
          let few = get_or-le-sum_by lack_of excess side (pos 0) within in
          let z_parts = parts (price_at excess side) in
          let least = most side within in
          omega (arith, ints, no_surplus, even, few, z_parts, least)
      | inr past ↦ get_or_past excess side (pos 0) past
    ]
