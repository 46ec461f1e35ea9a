-- What taking an entry from the frontier leaves true.
use Rattle.std.proofs.Common.{◌≡◌, ℕ, zero, suc, ◌<◌, ◌≤◌, Bool, true, false, List, [], ◌∷◌, length, get_or, Option, ◌⊎◌, inl, inr, refl, arith, ap, sym, subst}
use Rattle.std.specs.List.{All, Contains}
use Rattle.std.specs.List.Sorted.{IsPermutation}
use Rattle.std.proofs.lemmas.List.Elements.{All-tail}
use Rattle.std.proofs.lemmas.List.Sorted.{All-permutation, Contains-permutation}
use Rattle.reached_sides.specs.declared.mark.Mark.{Mark}
use Rattle.path_search.specs.Search.{mark_at, distance_at, is_open, is_settled, IsCurrent, IsWaiting, IsNext}

first_or_later : (entry other : ℕ × ℕ) (rest : List (ℕ × ℕ)) → Contains (entry ∷ rest) other → (entry ≡ other) ⊎ Contains rest other
first_or_later entry other rest has = by_place has.0 has.1 has.2
  where
    by_place : (k : ℕ) → k < length (entry ∷ rest) → get_or (entry ∷ rest) k other ≡ other → (entry ≡ other) ⊎ Contains rest other
    by_place zero within is = inl is
    by_place (suc k) within is = inr (k, omega (arith, within), is)

-- an open side that is not the one taken still stands on the frontier
still_listed : (marks : List (Option Mark)) (old new : List (ℕ × ℕ)) (distance side other : ℕ) → IsWaiting marks old
    → IsPermutation old ((distance, side) ∷ new) → is_open (mark_at marks other) ≡ true
    → ((distance ≡ distance_at marks other) × (side ≡ other)) ⊎ Contains new (distance_at marks other, other)
still_listed marks old new distance side other waiting moves waits =
    let has = Contains-permutation old ((distance, side) ∷ new) (distance_at marks other, other) moves (waiting.listed other waits) in
    elim (first_or_later (distance, side) (distance_at marks other, other) new has) [
      | inl same ↦ inl (ap (λ (p : ℕ × ℕ). p.0) same, ap (λ (p : ℕ × ℕ). p.1) same)
      | inr later ↦ inr later
    ]

rest_within : (marks : List (Option Mark)) (old new : List (ℕ × ℕ)) (distance side : ℕ) → IsWaiting marks old
    → IsPermutation old ((distance, side) ∷ new) → All (λ (entry : ℕ × ℕ). entry.1 < length marks) ((distance, side) ∷ new)
rest_within marks old new distance side waiting moves =
    All-permutation (λ (entry : ℕ × ℕ). entry.1 < length marks) old ((distance, side) ∷ new) moves waiting.within

rest_ordered : (marks : List (Option Mark)) (old new : List (ℕ × ℕ)) (distance side other : ℕ) → IsWaiting marks old
    → IsPermutation old ((distance, side) ∷ new) → is_settled (mark_at marks other) ≡ true
    → All (λ (entry : ℕ × ℕ). distance_at marks other ≤ entry.0) ((distance, side) ∷ new)
rest_ordered marks old new distance side other waiting moves settled =
    All-permutation (λ (entry : ℕ × ℕ). distance_at marks other ≤ entry.0) old ((distance, side) ∷ new) moves (waiting.ordered other settled)

pub side_within : (marks : List (Option Mark)) (old new : List (ℕ × ℕ)) (distance side : ℕ) → IsWaiting marks old
    → IsPermutation old ((distance, side) ∷ new) → side < length marks
side_within marks old new distance side waiting moves = rest_within marks old new distance side waiting moves 0 (0, 0) (omega arith)

pub dropped : (marks : List (Option Mark)) (old new : List (ℕ × ℕ)) (distance side : ℕ) → IsWaiting marks old
    → IsPermutation old ((distance, side) ∷ new) → (IsCurrent marks side distance → ⊥) → IsWaiting marks new
dropped marks old new distance side waiting moves stale = record {
  listed = λ other waits.
      elim (still_listed marks old new distance side other waiting moves waits) [
        | inl same ↦
            let there : IsCurrent marks other distance = record { waits = waits; at = sym same.0 } in
            absurd (stale (subst (λ (s : ℕ). IsCurrent marks s distance) (sym same.1) there))
        | inr later ↦ later
      ];
  within = All-tail (λ (entry : ℕ × ℕ). entry.1 < length marks) (distance, side) new (rest_within marks old new distance side waiting moves);
  ordered = λ other settled.
      All-tail (λ (entry : ℕ × ℕ). distance_at marks other ≤ entry.0) (distance, side) new (rest_ordered marks old new distance side other waiting moves settled);
}

pub taken : (marks : List (Option Mark)) (old new : List (ℕ × ℕ)) (distance side : ℕ) → IsWaiting marks old
    → IsPermutation old ((distance, side) ∷ new) → All (λ (entry : ℕ × ℕ). distance ≤ entry.0) new → IsCurrent marks side distance
    → IsNext marks new side distance
taken marks old new distance side waiting moves ahead current = record {
  current = current;
  inside = side_within marks old new distance side waiting moves;
  others = λ other waits apart.
      elim (still_listed marks old new distance side other waiting moves waits) [
        | inl same ↦ absurd (apart (sym same.1))
        | inr later ↦ later
      ];
  within = All-tail (λ (entry : ℕ × ℕ). entry.1 < length marks) (distance, side) new (rest_within marks old new distance side waiting moves);
  ahead = ahead;
  behind = λ other settled. rest_ordered marks old new distance side other waiting moves settled 0 (0, 0) (omega arith);
}

pub none_waits : (marks : List (Option Mark)) (frontier : List (ℕ × ℕ)) → IsWaiting marks frontier → frontier ≡ []
    → (side : ℕ) → is_open (mark_at marks side) ≡ false
none_waits marks frontier waiting empty side = by_open (is_open (mark_at marks side)) (waiting.listed side)
  where
    by_open : (b : Bool) → (b ≡ true → Contains frontier (distance_at marks side, side)) → b ≡ false
    by_open true listed =
        let has = subst (λ (list : List (ℕ × ℕ)). Contains list (distance_at marks side, side)) empty (listed refl) in
        absurd (let within = has.1 in omega (arith, within))
    by_open false listed = refl
