-- What an offered mark changes.
use Rattle.std.proofs.Common.{◌≡◌, ◌≢◌, ℕ, suc, ◌+◌, ◌^◌, ◌<◌, ◌≤◌, Bool, true, false, List, ◌∷◌, length, get_or, Option, None, Some, ◌⊎◌, inl, inr, refl, arith, ap, sym, ◌∙◌, subst, if◌then◌else◌}
use Rattle.std.specs.Prelude.{slice_set, ℤ}
use Rattle.std.specs.List.{All, Contains}
use Rattle.std.specs.List.Sorted.{IsPermutation}
use Rattle.std.proofs.lemmas.Bool.{cases_eq}
use Rattle.std.proofs.lemmas.List.{get_or-set_same, get_or-set_other, length-set}
use Rattle.std.proofs.lemmas.List.Elements.{All-cons}
use Rattle.std.proofs.lemmas.List.Sorted.{All-permutation, Contains-permutation}
use Rattle.std.proofs.lemmas.List.Sums.{sum_by-set, sum_by-le}
use Rattle.reached_sides.specs.declared.mark.Mark.{Mark}
use Rattle.path_search.specs.Search.{far, mark_at, distance_of, distance_at, is_settled, is_open, settled_one, settled_count, Offers, ComeNearer, IsSearching, IsLooking}

pub nearer_itself : (marks : List (Option Mark)) → ComeNearer marks marks
nearer_itself marks = record {
  each = refl;
  nearer = λ side. omega arith;
  kept = λ side settled. refl;
  alike = λ side. refl;
  count = refl;
}

pub nearer_on : (first second third : List (Option Mark)) → ComeNearer first second → ComeNearer second third → ComeNearer first third
nearer_on first second third one two = record {
  each = two.each ∙ one.each;
  nearer = λ side. omega (arith, one.nearer side, two.nearer side);
  kept = λ side settled. two.kept side (one.alike side ∙ settled) ∙ one.kept side settled;
  alike = λ side. two.alike side ∙ one.alike side;
  count = two.count ∙ one.count;
}

-- no more sides are settled than there are
one_at_most : (mark : Option Mark) → settled_one mark ≤ 1
one_at_most mark = at_most (is_settled mark)
  where
    at_most : (b : Bool) → (if b then 1 else 0) ≤ 1
    at_most true = omega arith
    at_most false = omega arith

pub few_settled : (marks : List (Option Mark)) → settled_count marks ≤ length marks
few_settled marks = let bound = sum_by-le settled_one 1 marks (λ k d within. one_at_most _) in omega (arith, bound)

-- a side to which a nearer mark can be offered is not settled
pub not_settled : (marks : List (Option Mark)) (frontier : List (ℕ × ℕ)) (limit side distance : ℕ) → IsSearching marks frontier limit
    → limit ≤ distance → (distance < distance_at marks side ⊎ (mark_at marks side ≡ None)) → is_settled (mark_at marks side) ≡ false
not_settled marks frontier limit side distance searching ahead new = by_mark (mark_at marks side) (searching.behind side) new
  where
    by_mark : (mark : Option Mark) → (is_settled mark ≡ true → distance_of mark ≤ limit)
        → (distance < distance_of mark ⊎ (mark ≡ None)) → is_settled mark ≡ false
    by_mark None behind new = refl
    by_mark (Some mark) behind (inr none) = absurd (cc)
    by_mark (Some mark) behind (inl further) = by_rank (is_settled (Some mark)) behind
      where
        by_rank : (b : Bool) → (b ≡ true → mark.distance ≤ limit) → b ≡ false
        by_rank true bound = absurd (omega (arith, bound refl, further, ahead))
        by_rank false bound = refl

-- the marks after a mark was set at a side that was not settled
pub record IsSet (side : ℕ) (mark : Mark) (marks new_marks : List (Option Mark)) : Type 0 where
  pub here : mark_at new_marks side ≡ Some mark
  pub others : (other : ℕ) → other ≢ side → mark_at new_marks other ≡ mark_at marks other
  pub each : length new_marks ≡ length marks
  pub count : settled_count new_marks + settled_one (mark_at marks side) ≡ settled_count marks + settled_one (Some mark)

pub set_is : (side : ℕ) (mark : Mark) (marks : List (Option Mark)) → side < length marks → IsSet side mark marks (slice_set marks side (Some mark))
set_is side mark marks within = record {
  here = get_or-set_same marks side (Some mark) None within;
  others = λ other apart. get_or-set_other marks side other (Some mark) None apart;
  each = length-set marks side (Some mark);
  count = sum_by-set settled_one marks side (Some mark) None within;
}

-- ---- a mark that is offered

Contains-later : (entry other : ℕ × ℕ) (frontier : List (ℕ × ℕ)) → Contains frontier other → Contains (entry ∷ frontier) other
Contains-later entry other frontier at = (at.0 + 1, omega (arith, at.1), later (at.0 + 1) (at.0) (omega arith) at.2)
  where
    later : (k j : ℕ) → k ≡ suc j → get_or frontier j other ≡ other → get_or (entry ∷ frontier) k other ≡ other
    later k j e is = rw e is

-- what holds when the mark was new
record IsTaken (prices : List ℤ) (marks : List (Option Mark)) (frontier : List (ℕ × ℕ)) (distance side : ℕ) (mark : Mark)
    (new_marks : List (Option Mark)) (new_frontier : List (ℕ × ℕ)) : Type 0 where
  pub looking : IsLooking prices marks frontier distance
  pub set : IsSet side mark marks new_marks
  pub moves : IsPermutation ((mark.distance, side) ∷ frontier) new_frontier
  pub side_within : side < length marks
  pub was : is_settled (mark_at marks side) ≡ false
  pub is_not : is_settled (Some mark) ≡ false
  pub ahead : distance ≤ mark.distance
  pub closer : mark.distance ≤ distance_at marks side

same_count : (prices : List ℤ) (marks : List (Option Mark)) (frontier : List (ℕ × ℕ)) (distance side : ℕ) (mark : Mark)
    (new_marks : List (Option Mark)) (new_frontier : List (ℕ × ℕ)) → IsTaken prices marks frontier distance side mark new_marks new_frontier
    → settled_count new_marks ≡ settled_count marks
same_count prices marks frontier distance side mark new_marks new_frontier taken =
    let before : settled_one (mark_at marks side) ≡ 0 = rw taken.was refl in
    let after : settled_one (Some mark) ≡ 0 = rw taken.is_not refl in
    omega (arith, taken.set.count, before, after)

taken_nearer : (prices : List ℤ) (marks : List (Option Mark)) (frontier : List (ℕ × ℕ)) (distance side : ℕ) (mark : Mark)
    (new_marks : List (Option Mark)) (new_frontier : List (ℕ × ℕ)) → IsTaken prices marks frontier distance side mark new_marks new_frontier
    → ComeNearer marks new_marks
taken_nearer prices marks frontier distance side mark new_marks new_frontier taken = record {
  each = taken.set.each;
  nearer = λ other.
      elim (cases_eq other side) [
        | inl e ↦
            let here : distance_at new_marks side ≡ mark.distance = ap distance_of taken.set.here in
            subst (λ (s : ℕ). distance_at new_marks s ≤ distance_at marks s) (sym e) (omega (arith, here, taken.closer))
        | inr apart ↦ let same = ap distance_of (taken.set.others other apart) in omega (arith, same)
      ];
  kept = λ other settled.
      elim (cases_eq other side) [
        | inl e ↦
            let here : is_settled (mark_at marks side) ≡ true = subst (λ (s : ℕ). is_settled (mark_at marks s) ≡ true) e settled in
            let clash : true ≡ false = sym here ∙ taken.was in absurd (cc)
        | inr apart ↦ taken.set.others other apart
      ];
  alike = λ other.
      elim (cases_eq other side) [
        | inl e ↦ subst (λ (s : ℕ). is_settled (mark_at new_marks s) ≡ is_settled (mark_at marks s)) (sym e)
            (ap is_settled taken.set.here ∙ taken.is_not ∙ sym taken.was)
        | inr apart ↦ ap is_settled (taken.set.others other apart)
      ];
  count = same_count prices marks frontier distance side mark new_marks new_frontier taken;
}

taken_searching : (prices : List ℤ) (marks : List (Option Mark)) (frontier : List (ℕ × ℕ)) (distance side : ℕ) (mark : Mark)
    (new_marks : List (Option Mark)) (new_frontier : List (ℕ × ℕ)) → IsTaken prices marks frontier distance side mark new_marks new_frontier
    → IsSearching new_marks new_frontier distance
taken_searching prices marks frontier distance side mark new_marks new_frontier taken =
    let searching = taken.looking.searching in
    let nearer = taken_nearer prices marks frontier distance side mark new_marks new_frontier taken in
    let here : distance_at new_marks side ≡ mark.distance = ap distance_of taken.set.here in
    let Inside : ℕ × ℕ → Type 0 = λ entry. entry.1 < length new_marks in
    let Ahead : ℕ × ℕ → Type 0 = λ entry. distance ≤ entry.0 in
    record {
      listed = λ other waits.
          elim (cases_eq other side) [
            | inl e ↦
                let first : Contains ((mark.distance, side) ∷ frontier) (mark.distance, side) = (0, omega arith, refl) in
                let found = Contains-permutation _ _ _ taken.moves first in
                let at_side : Contains new_frontier (distance_at new_marks side, side) =
                subst (λ (d : ℕ). Contains new_frontier (d, side)) (sym here) found in
                subst (λ (s : ℕ). Contains new_frontier (distance_at new_marks s, s)) (sym e) at_side
            | inr apart ↦
                let same = taken.set.others other apart in
                let before = searching.listed other (ap is_open (sym same) ∙ waits) in
                let found = Contains-permutation _ _ _ taken.moves (Contains-later (mark.distance, side) _ frontier before) in
                subst (λ (d : ℕ). Contains new_frontier (d, other)) (ap distance_of (sym same)) found
          ];
      within =
          let old : All Inside frontier = λ k d within. omega (arith, searching.within k d within, taken.set.each) in
          All-permutation Inside _ _ taken.moves (All-cons Inside _ _ (omega (arith, taken.side_within, taken.set.each)) old);
      ahead = All-permutation Ahead _ _ taken.moves (All-cons Ahead _ _ taken.ahead searching.ahead);
      behind = λ other settled.
          let before = sym (nearer.alike other) ∙ settled in
          let same = ap distance_of (nearer.kept other before) in
          omega (arith, same, searching.behind other before);
    }

pub looked : (prices : List ℤ) (marks : List (Option Mark)) (frontier : List (ℕ × ℕ)) (distance side : ℕ) (mark : Mark)
    (new_marks : List (Option Mark)) (new_frontier : List (ℕ × ℕ)) → IsLooking prices marks frontier distance → side < length prices
    → is_settled (Some mark) ≡ false → distance ≤ mark.distance → mark.distance ≤ distance + 2 ^ 33
    → Offers side mark marks frontier new_marks new_frontier
    → IsLooking prices new_marks new_frontier distance × ComeNearer marks new_marks
looked prices marks frontier distance side mark new_marks new_frontier looking within is_not ahead room (inl same) =
    subst (λ (after : List (Option Mark)). IsLooking prices after new_frontier distance × ComeNearer marks after) (sym same.1)
    (subst (λ (after : List (ℕ × ℕ)). IsLooking prices marks after distance) (sym same.2) looking, nearer_itself marks)
looked prices marks frontier distance side mark new_marks new_frontier looking within is_not ahead room (inr new) =
    let inside : side < length marks = omega (arith, within, looking.each) in
    let below : mark.distance ≤ far = omega (arith, room, looking.room) in
    let closer : mark.distance ≤ distance_at marks side = elim new.0 [
      | inl less ↦ omega (arith, less)
      | inr none ↦ let unknown : distance_at marks side ≡ far = ap distance_of none in omega (arith, unknown, below)
    ] in
    let taken : IsTaken prices marks frontier distance side mark new_marks new_frontier = record {
      looking = looking;
      set = subst (λ (after : List (Option Mark)). IsSet side mark marks after) (sym new.1) (set_is side mark marks inside);
      moves = new.2;
      side_within = inside;
      was = not_settled marks frontier distance side mark.distance looking.searching ahead new.0;
      is_not = is_not;
      ahead = ahead;
      closer = closer;
    } in
    let nearer = taken_nearer prices marks frontier distance side mark new_marks new_frontier taken in (
      record {
        small = looking.small;
        each = nearer.each ∙ looking.each;
        searching = taken_searching prices marks frontier distance side mark new_marks new_frontier taken;
        room = looking.room;
      },
      nearer,
    )
