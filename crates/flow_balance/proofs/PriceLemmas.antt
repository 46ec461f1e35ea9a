-- The loop that moves the prices of settled sides, and puts these at one distance.
use Rattle.std.proofs.Common.{◌≡◌, ◌≢◌, ℕ, ◌+◌, ◌-◌, ◌<◌, ◌≤◌, Bool, true, false, List, length, get_or, Option, None, Some, inl, inr, refl, arith, ap, sym, ◌∙◌, subst}
use Rattle.std.specs.Prelude.{slice_set, ℤ, pos, ◌-ℤ◌}
use Rattle.std.proofs.lemmas.Bool.{cases_eq, cases_lt}
use Rattle.std.proofs.lemmas.Int.{ints}
use Rattle.std.proofs.lemmas.List.{get_or-set_same, get_or-set_other, get_or_past}
use Rattle.residual_model.specs.Residual.{moved}
use Rattle.reached_sides.specs.declared.mark.Mark.{Mark}
use Rattle.path_search.specs.Ground.{price_at}
use Rattle.path_search.specs.Search.{mark_at, distance_at, distance_of, is_settled, settled_count, settled_one}
use Rattle.path_search.specs.Ways.{rank_of, AreInOrder}
use Rattle.path_search.proofs.CostLemmas.{settled_mark}
use Rattle.path_search.proofs.SearchLemmas.{IsSet, set_is}
use Rattle.flow_balance.specs.Level.{IsLevelled, put_at}

-- the prices of so many settled sides were moved
pub record AreMoving (prices : List ℤ) (marks : List (Option Mark)) (limit : ℕ) (now : List ℤ) (k : ℕ) : Type 0 where
  pub done : (side : ℕ) → is_settled (mark_at marks side) ≡ true → rank_of (mark_at marks side) < k
      → price_at now side ≡ moved (price_at prices) (distance_at marks) limit side
  pub rest : (side : ℕ) → (is_settled (mark_at marks side) ≡ true → k ≤ rank_of (mark_at marks side)) → price_at now side ≡ price_at prices side

pub settled_inside : (marks : List (Option Mark)) (order : List ℕ) (k : ℕ) → AreInOrder marks order → k < length order → get_or order k 0 < length marks
settled_inside marks order k ordered below =
    let side = get_or order k 0 in
    elim (cases_lt side (length marks)) [
      | inl within ↦ within
      | inr past ↦
          let none : is_settled (mark_at marks side) ≡ false = ap is_settled (get_or_past marks side None past) in
          let clash : true ≡ false = sym (ordered.settled k below).0 ∙ none in
          absurd (cc)
    ]

-- a price is moved for the first time
pub still_small : (prices : List ℤ) (marks : List (Option Mark)) (order : List ℕ) (limit : ℕ) (now : List ℤ) (k : ℕ) → AreInOrder marks order
    → k < length order → AreMoving prices marks limit now k → price_at now (get_or order k 0) ≡ price_at prices (get_or order k 0)
still_small prices marks order limit now k ordered below so_far =
    let rank = (ordered.settled k below).1 in so_far.rest (get_or order k 0) (λ settled. omega (arith, rank))

pub moving_none : (prices : List ℤ) (marks : List (Option Mark)) (limit : ℕ) → AreMoving prices marks limit prices 0
moving_none prices marks limit = record {
  done = λ side settled below. absurd (omega (arith, below));
  rest = λ side ahead. refl;
}

pub moving_more : (prices : List ℤ) (marks : List (Option Mark)) (order : List ℕ) (limit : ℕ) (now : List ℤ) (k : ℕ) (value : ℤ) → AreInOrder marks order
    → k < length order → get_or order k 0 < length now
    → value ≡ price_at now (get_or order k 0) -ℤ pos (limit - distance_at marks (get_or order k 0))
    → AreMoving prices marks limit now k → AreMoving prices marks limit (slice_set now (get_or order k 0) value) (k + 1)
moving_more prices marks order limit now k value ordered below inside is so_far =
    let here = get_or order k 0 in
    let placed = ordered.settled k below in
    let was = so_far.rest here (λ settled. let rank = placed.1 in omega (arith, rank)) in
    record {
      done = λ side settled before.
          elim (cases_eq (rank_of (mark_at marks side)) k) [
            | inl e ↦
                let at : here ≡ side = ap (λ (r : ℕ). get_or order r 0) (sym e) ∙ (ordered.listed side settled).1 in
                let set = get_or-set_same now here value (pos 0) inside in
                let told : price_at (slice_set now here value) here ≡ moved (price_at prices) (distance_at marks) limit here =
                omega (arith, ints, set, is, was) in
                subst (λ (s : ℕ). price_at (slice_set now here value) s ≡ moved (price_at prices) (distance_at marks) limit s) at told
            | inr apart ↦
                let other : side ≢ here = λ e.
                let same = ap (λ (s : ℕ). rank_of (mark_at marks s)) e in
                let rank = placed.1 in
                apart (omega (arith, same, rank)) in
                get_or-set_other now here side value (pos 0) other ∙ so_far.done side settled (omega (arith, before, apart))
          ];
      rest = λ side ahead.
          let other : side ≢ here = λ e.
          let same = ap (λ (s : ℕ). rank_of (mark_at marks s)) e in
          let rank = placed.1 in
          let later = ahead (ap (λ (s : ℕ). is_settled (mark_at marks s)) e ∙ placed.0) in
          omega (arith, same, rank, later) in
          get_or-set_other now here side value (pos 0) other ∙ so_far.rest side (λ settled. let later = ahead settled in omega (arith, later));
    }

pub moving_all : (prices : List ℤ) (marks : List (Option Mark)) (order : List ℕ) (limit : ℕ) (now : List ℤ) (k : ℕ) → AreInOrder marks order
    → length order ≤ k → ((side : ℕ) → distance_at marks side < limit → is_settled (mark_at marks side) ≡ true)
    → AreMoving prices marks limit now k → (side : ℕ) → price_at now side ≡ moved (price_at prices) (distance_at marks) limit side
moving_all prices marks order limit now k ordered past nearest so_far side = by_settled (is_settled (mark_at marks side)) refl
  where
    by_settled : (b : Bool) → is_settled (mark_at marks side) ≡ b → price_at now side ≡ moved (price_at prices) (distance_at marks) limit side
    by_settled true settled = let place = (ordered.listed side settled).0 in so_far.done side settled (omega (arith, place, past))
    by_settled false open_side =
        let same = so_far.rest side (λ settled. let clash : true ≡ false = sym settled ∙ open_side in absurd (cc)) in
        elim (cases_lt (distance_at marks side) limit) [
          | inl near ↦ let clash : true ≡ false = sym (nearest side near) ∙ open_side in absurd (cc)
          | inr beyond ↦ omega (arith, ints, same, beyond)
        ]

-- no side is nearer
pub moving_by_none : (prices : List ℤ) (marks : List (Option Mark)) (limit : ℕ) → ((side : ℕ) → limit ≤ distance_at marks side)
    → (side : ℕ) → price_at prices side ≡ moved (price_at prices) (distance_at marks) limit side
moving_by_none prices marks limit none side = let far = none side in omega (arith, ints, far)

-- where each settled side is at the limit
pub none_nearer : (marks : List (Option Mark)) (limit : ℕ) → ((side : ℕ) → is_settled (mark_at marks side) ≡ true → distance_at marks side ≡ limit)
    → ((side : ℕ) → distance_at marks side < limit → is_settled (mark_at marks side) ≡ true) → (side : ℕ) → limit ≤ distance_at marks side
none_nearer marks limit level nearest side =
    elim (cases_lt (distance_at marks side) limit) [
      | inl near ↦ let at = level side (nearest side near) in omega (arith, at)
      | inr beyond ↦ beyond
    ]

-- ---- the marks

put_none : (limit : ℕ) (at : Option Mark) → distance_of at ≡ limit → is_settled at ≡ true → at ≡ put_at limit at
put_none limit None here settled = refl
put_none limit (Some mark) here settled = ap (λ (d : ℕ). Some (record mark { distance = d })) here

pub levelled_already : (marks : List (Option Mark)) (limit : ℕ) → ((side : ℕ) → is_settled (mark_at marks side) ≡ true → distance_at marks side ≡ limit)
    → IsLevelled marks limit marks
levelled_already marks limit level = record {
  each = refl;
  settled = λ side settled. put_none limit (mark_at marks side) (level side settled) settled;
  others = λ side not_settled. refl;
  count = refl;
}

-- so many settled sides were put at the limit
pub record ArePut (marks : List (Option Mark)) (limit : ℕ) (now : List (Option Mark)) (k : ℕ) : Type 0 where
  pub each : length now ≡ length marks
  pub done : (side : ℕ) → is_settled (mark_at marks side) ≡ true → rank_of (mark_at marks side) < k
      → mark_at now side ≡ put_at limit (mark_at marks side)
  pub rest : (side : ℕ) → (is_settled (mark_at marks side) ≡ true → k ≤ rank_of (mark_at marks side)) → mark_at now side ≡ mark_at marks side
  pub count : settled_count now ≡ settled_count marks

pub put_begins : (marks : List (Option Mark)) (limit : ℕ) → ArePut marks limit marks 0
put_begins marks limit = record {
  each = refl;
  done = λ side settled below. absurd (omega (arith, below));
  rest = λ side ahead. refl;
  count = refl;
}

pub put_more : (marks : List (Option Mark)) (order : List ℕ) (limit : ℕ) (now new : List (Option Mark)) (k : ℕ) → AreInOrder marks order
    → k < length order → get_or order k 0 < length marks
    → new ≡ slice_set now (get_or order k 0) (put_at limit (mark_at now (get_or order k 0)))
    → ArePut marks limit now k → ArePut marks limit new (k + 1)
put_more marks order limit now new k ordered below inside is so_far =
    let here = get_or order k 0 in
    let placed = ordered.settled k below in
    let was = so_far.rest here (λ settled. let rank = placed.1 in omega (arith, rank)) in
    let found = settled_mark (mark_at marks here) placed.0 in
    let after : Mark = record found.0 { distance = limit } in
    let value : put_at limit (mark_at now here) ≡ Some after = ap (put_at limit) (was ∙ found.1) in
    let is_set : new ≡ slice_set now here (Some after) = is ∙ ap (slice_set now here) value in
    let each = so_far.each in
    let set = subst (λ (list : List (Option Mark)). IsSet here after now list) (sym is_set) (set_is here after now (omega (arith, each, inside))) in
    let one : settled_one (mark_at now here) ≡ settled_one (Some found.0) = ap settled_one (was ∙ found.1) in
    let count = so_far.count in
    record {
      each = set.each ∙ each;
      done = λ side settled before.
          elim (cases_eq side here) [
            | inl e ↦ subst (λ (s : ℕ). mark_at new s ≡ put_at limit (mark_at marks s)) (sym e) (set.here ∙ sym (ap (put_at limit) found.1))
            | inr apart ↦
                let other_rank = λ (e : rank_of (mark_at marks side) ≡ k).
                apart (sym (ordered.listed side settled).1 ∙ ap (λ (r : ℕ). get_or order r 0) e) in
                let earlier : rank_of (mark_at marks side) < k =
                elim (cases_lt (rank_of (mark_at marks side)) k) [
                  | inl less ↦ less
                  | inr more ↦ absurd (other_rank (omega (arith, before, more)))
                ] in
                set.others side apart ∙ so_far.done side settled earlier
          ];
      rest = λ side ahead.
          let other : side ≢ here = λ e.
          let same = ap (λ (s : ℕ). rank_of (mark_at marks s)) e in
          let rank = placed.1 in
          let later = ahead (ap (λ (s : ℕ). is_settled (mark_at marks s)) e ∙ placed.0) in
          omega (arith, same, rank, later) in
          set.others side other ∙ so_far.rest side (λ settled. let later = ahead settled in omega (arith, later));
      count = let by = set.count in omega (arith, by, one, count);
    }

pub put_all : (marks : List (Option Mark)) (order : List ℕ) (limit : ℕ) (now : List (Option Mark)) (k : ℕ) → AreInOrder marks order
    → length order ≤ k → ArePut marks limit now k → IsLevelled marks limit now
put_all marks order limit now k ordered past so_far = record {
  each = so_far.each;
  settled = λ side settled. let place = (ordered.listed side settled).0 in so_far.done side settled (omega (arith, place, past));
  others = λ side open_side. so_far.rest side (λ settled. let clash : true ≡ false = sym settled ∙ open_side in absurd (cc));
  count = so_far.count;
}

-- a side that is still to be put has its distance
pub still_there : (marks : List (Option Mark)) (order : List ℕ) (limit : ℕ) (now : List (Option Mark)) (k : ℕ) → AreInOrder marks order
    → k < length order → ArePut marks limit now k → mark_at now (get_or order k 0) ≡ mark_at marks (get_or order k 0)
still_there marks order limit now k ordered below so_far =
    let rank = (ordered.settled k below).1 in so_far.rest (get_or order k 0) (λ settled. omega (arith, rank))
