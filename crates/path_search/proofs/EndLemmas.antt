-- What a search has found when it ends.
use Rattle.std.proofs.Common.{◌≡◌, ℕ, ◌^◌, ◌<◌, ◌≤◌, Bool, true, false, not, List, length, Option, None, Some, ◌⊎◌, inl, inr, refl, arith, ap, sym, ◌∙◌}
use Rattle.std.specs.Prelude.{ℤ, pos, ◌+ℤ◌, ◌≤ℤ◌, ◌<ℤ◌}
use Rattle.std.specs.Option.{is_some}
use Rattle.std.proofs.lemmas.Bool.{cases_eq}
use Rattle.std.proofs.lemmas.Int.{ints}
use Rattle.std.proofs.lemmas.List.Elements.{All-contains}
use Rattle.flow_model.specs.Network.{arcs_of}
use Rattle.flow_model.proofs.ArcLemmas.{each_from}
use Rattle.residual_model.specs.Residual.{StepsOn, reduced}
use Rattle.reached_sides.specs.declared.mark.Mark.{Mark}
use Rattle.path_search.specs.Ground.{AreSmall, IsSmallCost, arc_at, count_at, price_at, IsGround}
use Rattle.path_search.specs.Search.{far, mark_at, distance_of, distance_at, is_settled, is_open, is_reached, IsNext}
use Rattle.path_search.specs.Task.{Task}
use Rattle.path_search.specs.Found.{HasClosed, HasReached, HasSettled}
use Rattle.path_search.proofs.RowLemmas.{each_at, each_by_place, placed}
use Rattle.path_search.proofs.CostLemmas.{way_near, settled_mark, more_is_small, less_is_small}
use Rattle.path_search.proofs.WalkLemmas.{open_mark}

-- ---- a side that lacks something

three_ways : (at : Option Mark) → (is_settled at ≡ true) ⊎ ((is_open at ≡ true) ⊎ (at ≡ None))
three_ways None = inr (inr refl)
three_ways (Some mark) = by_rank (is_some mark.rank) refl
  where
    by_rank : (b : Bool) → is_some mark.rank ≡ b
        → (is_settled (Some mark) ≡ true) ⊎ ((is_open (Some mark) ≡ true) ⊎ (Some mark ≡ None))
    by_rank true is = inl is
    by_rank false is = inr (inl (ap not is))

pub nearer_is_settled : (marks : List (Option Mark)) (frontier : List (ℕ × ℕ)) (side distance other : ℕ)
    → distance_at marks side < far → IsNext marks frontier side distance
    → distance_at marks other < distance_at marks side → is_settled (mark_at marks other) ≡ true
nearer_is_settled marks frontier side distance other near next nearer =
    elim (three_ways (mark_at marks other)) [
      | inl settled ↦ settled
      | inr rest ↦ elim rest [
        | inl waits ↦ elim (cases_eq other side) [
          | inl e ↦ let same = ap (distance_at marks) e in absurd (omega (arith, same, nearer))
          | inr apart ↦
              let there = next.others other waits apart in
              let ahead = All-contains (λ (entry : ℕ × ℕ). distance ≤ entry.0) frontier (distance_at marks other, other) next.ahead there in
              absurd (omega (arith, ahead, nearer, next.current.at))
        ]
        | inr none ↦
            let beyond : distance_at marks other ≡ far = ap distance_of none in
            absurd (omega (arith, near, beyond, nearer))
      ]
    ]

-- the side that the search has come to is near
pub next_near : (task : Task) (marks : List (Option Mark)) (frontier : List (ℕ × ℕ)) (side distance : ℕ)
    → IsGround task.net task.counts task.prices → HasSettled task marks
    → IsNext marks frontier side distance → distance_at marks side < 2 ^ 33
next_near task marks frontier side distance ground done next =
    let found = open_mark (mark_at marks side) next.current.waits in
    let near = way_near task marks ground done.ways done.each side found.0 found.1 in
    let d = ap distance_of found.1 in
    omega (arith, near, d)

pub reached : (task : Task) (marks : List (Option Mark)) (frontier : List (ℕ × ℕ)) (side distance : ℕ)
    → IsGround task.net task.counts task.prices → HasSettled task marks
    → IsNext marks frontier side distance → price_at task.excess side <ℤ pos 0
    → HasReached task marks side
reached task marks frontier side distance ground done next lacks =
    let each = done.each in
    let near = next_near task marks frontier side distance ground done next in
    let Led : ℕ → ℕ → ℤ → Type 0 = λ from to cost. is_settled (mark_at marks from) ≡ true
    → pos (distance_at marks to) ≤ℤ (pos (distance_at marks from) +ℤ reduced (price_at task.prices) from to cost) in
    let Held : ℕ → ℕ → ℤ → Type 0 = λ from to cost. distance_at marks from < distance_at marks side
    → pos (distance_at marks to) ≤ℤ (pos (distance_at marks from) +ℤ reduced (price_at task.prices) from to cost) in
    let settled = λ (other : ℕ). nearer_is_settled marks frontier side distance other (omega (arith, near)) next in
    record {
      settled = done;
      inside = let inside = next.inside in omega (arith, inside, each);
      lacks = lacks;
      nearest = settled;
      hold = each_from (StepsOn Led) (StepsOn Held)
          (λ arc n here. record {
            along = λ below nearer. here.along below (settled arc.tail nearer);
            against = λ above nearer. here.against above (settled arc.head nearer);
          })
          (arcs_of task.net) task.counts done.led;
    }

-- ---- a set that no step leaves

reached_is_settled : (marks : List (Option Mark)) (side : ℕ) → is_open (mark_at marks side) ≡ false → is_reached marks side ≡ true
    → is_settled (mark_at marks side) ≡ true
reached_is_settled marks side not_open is =
    elim (three_ways (mark_at marks side)) [
      | inl settled ↦ settled
      | inr rest ↦ elim rest [
        | inl waits ↦ let clash : true ≡ false = sym waits ∙ not_open in absurd (cc)
        | inr none ↦ let clash : true ≡ false = sym is ∙ ap is_some none in absurd (cc)
      ]
    ]

near_is_reached : (marks : List (Option Mark)) (side : ℕ) → distance_at marks side < far → is_reached marks side ≡ true
near_is_reached marks side near = by_mark (mark_at marks side) near
  where
    by_mark : (at : Option Mark) → distance_of at < far → is_some at ≡ true
    by_mark None near = absurd (omega (arith, near))
    by_mark (Some mark) near = refl

-- one step from a settled side
step_reaches : (prices : List ℤ) (marks : List (Option Mark)) (from to : ℕ) (cost : ℤ) → AreSmall prices
    → from < length prices → to < length prices → IsSmallCost cost → distance_at marks from < 2 ^ 33
    → pos (distance_at marks to) ≤ℤ (pos (distance_at marks from) +ℤ reduced (price_at prices) from to cost)
    → is_reached marks to ≡ true
step_reaches prices marks from to cost small from_within to_within cheap below led =
    let here = small from (pos 0) from_within in
    let there = small to (pos 0) to_within in
    near_is_reached marks to (omega (arith, ints, led, below, here.least, here.most, there.least, there.most, cheap.least, cheap.most))

pub closed : (task : Task) (marks : List (Option Mark))
    → IsGround task.net task.counts task.prices → HasSettled task marks
    → ((side : ℕ) → is_open (mark_at marks side) ≡ false) → HasClosed task marks
closed task marks ground done none_open =
    let Led : ℕ → ℕ → ℤ → Type 0 = λ from to cost. is_settled (mark_at marks from) ≡ true
    → pos (distance_at marks to) ≤ℤ (pos (distance_at marks from) +ℤ reduced (price_at task.prices) from to cost) in
    let Closed : ℕ → ℕ → ℤ → Type 0 = λ from to cost. is_reached marks from ≡ true → is_reached marks to ≡ true in
    let settled = λ (side : ℕ) (is : is_reached marks side ≡ true). reached_is_settled marks side (none_open side) is in
    let near : (side : ℕ) → is_reached marks side ≡ true → distance_at marks side < 2 ^ 33 = λ side is.
    let mark = settled_mark (mark_at marks side) (settled side is) in
    let close = way_near task marks ground done.ways done.each side mark.0 mark.1 in
    let d = ap distance_of mark.1 in
    omega (arith, close, d) in
    record {
      settled = done;
      begins = near_is_reached marks task.source done.begins;
      closed = each_by_place (StepsOn Closed) (arcs_of task.net) task.counts ground.counted
          (λ place inside.
          let here = placed task.net task.counts task.prices ground.of_a_function ground place inside in
          let led = each_at (StepsOn Led) (arcs_of task.net) task.counts done.led place inside in
          record {
            along = λ below is.
                step_reaches task.prices marks _ _ _ ground.small here.starts here.leads
                (more_is_small (arc_at (arcs_of task.net) place) (count_at task.counts place) here.cheap) (near _ is) (led.along below (settled _ is));
            against = λ above is.
                step_reaches task.prices marks _ _ _ ground.small here.leads here.starts
                (less_is_small (arc_at (arcs_of task.net) place) (count_at task.counts place) (omega (arith, above)) here.cheap) (near _ is) (led.against above (settled _ is));
          });
      none_lacks = λ side is. done.none_lacks side (settled side is);
    }
