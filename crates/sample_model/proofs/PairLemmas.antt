-- Pairs of numbers in their order, and ascending lists of them.
use Rattle.std.proofs.Common.{◌≡◌, ℕ, true, false, ◌||◌, cond, List, [], ◌∷◌, refl, sym, ap, subst, ◌∙◌, arith}
use Rattle.std.specs.List.{AllByRecursion}
use Rattle.std.proofs.lemmas.Bool.{true≢false}
use Rattle.std.proofs.lemmas.Bool.Decides.{nat_tests}
use Rattle.list_lemmas.proofs.Tests.{or_swap, or_same}
use Rattle.sample_model.specs.Pairs.{same_pair, pair_lt, with_pair, distinct_pairs}
use Rattle.sample_model.specs.Laws.{IsAscending, has_pair, HaveSamePairs, DistinctPairsAscend, DistinctPairsAreUnique}

pub same_pair-refl : (p : ℕ × ℕ) → same_pair p p ≡ true
same_pair-refl p = grind (arith, nat_tests)

pub same_pair-equal : (p q : ℕ × ℕ) → same_pair p q ≡ true → p ≡ q
same_pair-equal p q same = let a : p.0 ≡ q.0 = grind (arith, nat_tests) in let b : p.1 ≡ q.1 = grind (arith, nat_tests) in
    let first : ℕ → ℕ × ℕ = λ x. (x, p.1) in let second : ℕ → ℕ × ℕ = λ y. (q.0, y) in ap first a ∙ ap second b

pub pair_lt-trans : (p q r : ℕ × ℕ) → pair_lt p q ≡ true → pair_lt q r ≡ true → pair_lt p r ≡ true
pair_lt-trans p q r first second = grind (arith, nat_tests)

-- a pair that stands neither below another nor is the same stands above it
pub pair_lt-else : (p q : ℕ × ℕ) → pair_lt p q ≡ false → same_pair p q ≡ false → pair_lt q p ≡ true
pair_lt-else p q not_below not_same = grind (arith, nat_tests)

pub pair_lt-not_same : (p q : ℕ × ℕ) → pair_lt p q ≡ true → same_pair p q ≡ false
pair_lt-not_same p q below = grind (arith, nat_tests)

-- a pair below all of a list does not stand in it
pub has_pair-below : (p : ℕ × ℕ) (pairs : List (ℕ × ℕ)) → AllByRecursion (λ q. pair_lt p q ≡ true) pairs → has_pair p pairs ≡ false
has_pair-below p [] below = refl
has_pair-below p (q ∷ pairs) below = ap (λ b. b || has_pair p pairs) (pair_lt-not_same p q below.0) ∙ has_pair-below p pairs below.1

-- what stands above a pair stands above each pair below it
pub above-trans : (p q : ℕ × ℕ) (pairs : List (ℕ × ℕ)) → pair_lt p q ≡ true → AllByRecursion (λ r. pair_lt q r ≡ true) pairs → AllByRecursion (λ r. pair_lt p r ≡ true) pairs
above-trans p q [] first above = tt
above-trans p q (r ∷ pairs) first above = (pair_lt-trans p q r first above.0, above-trans p q pairs first above.1)

-- one pair more in an ascending list
above-with_pair : (low p : ℕ × ℕ) (pairs : List (ℕ × ℕ)) → pair_lt low p ≡ true → AllByRecursion (λ r. pair_lt low r ≡ true) pairs → AllByRecursion (λ r. pair_lt low r ≡ true) (with_pair p pairs)
above-with_pair low p [] first above = (first, tt)
above-with_pair low p (q ∷ pairs) first above =
    elim (pair_lt p q) as (λ b. AllByRecursion (λ r. pair_lt low r ≡ true) (cond b (p ∷ q ∷ pairs) (cond (same_pair p q) (q ∷ pairs) (q ∷ with_pair p pairs)))) [
      | true ↦ (first, above)
      | false ↦ elim (same_pair p q) as (λ b. AllByRecursion (λ r. pair_lt low r ≡ true) (cond b (q ∷ pairs) (q ∷ with_pair p pairs)))
          [ true ↦ above | false ↦ (above.0, above-with_pair low p pairs first above.1) ]
    ]

IsAscending-with_pair : (p : ℕ × ℕ) (pairs : List (ℕ × ℕ)) → IsAscending pairs → IsAscending (with_pair p pairs)
IsAscending-with_pair p [] ascending = (tt, tt)
IsAscending-with_pair p (q ∷ pairs) ascending =
    elim (pair_lt p q) as (λ b. pair_lt p q ≡ b → IsAscending (cond b (p ∷ q ∷ pairs) (cond (same_pair p q) (q ∷ pairs) (q ∷ with_pair p pairs)))) [
      | true ↦ λ below. ((below, above-trans p q pairs below ascending.0), ascending)
      | false ↦ λ not_below. elim (same_pair p q) as (λ b. same_pair p q ≡ b → IsAscending (cond b (q ∷ pairs) (q ∷ with_pair p pairs))) [
        | true ↦ λ _. ascending
        | false ↦ λ not_same. (above-with_pair q p pairs (pair_lt-else p q not_below not_same) ascending.0, IsAscending-with_pair p pairs ascending.1)
      ] refl
    ] refl

has_pair-with_pair : (r p : ℕ × ℕ) (pairs : List (ℕ × ℕ)) → has_pair r (with_pair p pairs) ≡ (same_pair r p || has_pair r pairs)
has_pair-with_pair r p [] = refl
has_pair-with_pair r p (q ∷ pairs) =
    elim (pair_lt p q) as (λ b. has_pair r (cond b (p ∷ q ∷ pairs) (cond (same_pair p q) (q ∷ pairs) (q ∷ with_pair p pairs))) ≡ (same_pair r p || has_pair r (q ∷ pairs))) [
      | true ↦ refl
      | false ↦ elim (same_pair p q) as (λ b. same_pair p q ≡ b → has_pair r (cond b (q ∷ pairs) (q ∷ with_pair p pairs)) ≡ (same_pair r p || has_pair r (q ∷ pairs))) [
        | true ↦ λ same. or_same (same_pair r q) (has_pair r pairs) ∙ ap (λ (x : ℕ × ℕ). same_pair r x || has_pair r (q ∷ pairs)) (sym (same_pair-equal p q same))
        | false ↦ λ _. ap (λ b. same_pair r q || b) (has_pair-with_pair r p pairs) ∙ or_swap (same_pair r p) (same_pair r q) (has_pair r pairs)
      ] refl
    ]

IsAscending-distinct_pairs : (pairs : List (ℕ × ℕ)) → IsAscending (distinct_pairs pairs)
IsAscending-distinct_pairs [] = tt
IsAscending-distinct_pairs (p ∷ pairs) = IsAscending-with_pair p (distinct_pairs pairs) (IsAscending-distinct_pairs pairs)

has_pair-distinct_pairs : (r : ℕ × ℕ) (pairs : List (ℕ × ℕ)) → has_pair r (distinct_pairs pairs) ≡ has_pair r pairs
has_pair-distinct_pairs r [] = refl
has_pair-distinct_pairs r (p ∷ pairs) = has_pair-with_pair r p (distinct_pairs pairs) ∙ ap (λ b. same_pair r p || b) (has_pair-distinct_pairs r pairs)

pub distinct_pairs_ascend : DistinctPairsAscend
distinct_pairs_ascend pairs = record { ascending = IsAscending-distinct_pairs pairs; same = λ p. has_pair-distinct_pairs p pairs }

has_pair-head : (p : ℕ × ℕ) (pairs : List (ℕ × ℕ)) → has_pair p (p ∷ pairs) ≡ true
has_pair-head p pairs = ap (λ b. b || has_pair p pairs) (same_pair-refl p)

-- a pair below the first of an ascending list does not stand in it
has_pair-before : (p q : ℕ × ℕ) (pairs : List (ℕ × ℕ)) → pair_lt p q ≡ true → IsAscending (q ∷ pairs) → has_pair p (q ∷ pairs) ≡ false
has_pair-before p q pairs below ascending = has_pair-below p (q ∷ pairs) (below, above-trans p q pairs below ascending.0)

-- the lists behind equal first pairs have the same pairs
same_rest : (p : ℕ × ℕ) (pairs others : List (ℕ × ℕ)) → IsAscending (p ∷ pairs) → IsAscending (p ∷ others) → HaveSamePairs (p ∷ pairs) (p ∷ others) → HaveSamePairs pairs others
same_rest p pairs others ascending other_ascending same r =
    elim (same_pair r p) as (λ b. same_pair r p ≡ b → (b || has_pair r pairs) ≡ (b || has_pair r others) → has_pair r pairs ≡ has_pair r others) [
      | true ↦ λ is _.
          let here : r ≡ p = same_pair-equal r p is in
          ap (λ (x : ℕ × ℕ). has_pair x pairs) here ∙ has_pair-below p pairs ascending.0 ∙ sym (ap (λ (x : ℕ × ℕ). has_pair x others) here ∙ has_pair-below p others other_ascending.0)
      | false ↦ λ _ rest. rest
    ] refl (same r)

-- two ascending lists with the same pairs are equal
ascending_equal : (pairs others : List (ℕ × ℕ)) → IsAscending pairs → IsAscending others → HaveSamePairs pairs others → pairs ≡ others
ascending_equal [] [] ascending other_ascending same = refl
ascending_equal [] (q ∷ others) ascending other_ascending same = absurd (true≢false (sym (has_pair-head q others) ∙ sym (same q)))
ascending_equal (p ∷ pairs) [] ascending other_ascending same = absurd (true≢false (sym (has_pair-head p pairs) ∙ same p))
ascending_equal (p ∷ pairs) (q ∷ others) ascending other_ascending same =
    elim (pair_lt p q) as (λ b. pair_lt p q ≡ b → p ∷ pairs ≡ q ∷ others) [
      | true ↦ λ below. absurd (true≢false (sym (has_pair-head p pairs) ∙ same p ∙ has_pair-before p q others below other_ascending))
      | false ↦ λ not_below. elim (same_pair p q) as (λ b. same_pair p q ≡ b → p ∷ pairs ≡ q ∷ others) [
        | true ↦ λ is.
            let here : q ≡ p = sym (same_pair-equal p q is) in
            let rest_ascending : IsAscending (p ∷ others) = subst (λ (x : ℕ × ℕ). IsAscending (x ∷ others)) here other_ascending in
            let rest_same : HaveSamePairs (p ∷ pairs) (p ∷ others) = subst (λ (x : ℕ × ℕ). HaveSamePairs (p ∷ pairs) (x ∷ others)) here same in
            ap (λ (ps : List (ℕ × ℕ)). p ∷ ps) (ascending_equal pairs others ascending.1 other_ascending.1 (same_rest p pairs others ascending rest_ascending rest_same))
            ∙ ap (λ (x : ℕ × ℕ). x ∷ others) (sym here)
        | false ↦ λ not_same. absurd (true≢false (sym (has_pair-head q others) ∙ sym (same q) ∙ has_pair-before q p pairs (pair_lt-else p q not_below not_same) ascending))
      ] refl
    ] refl

pub distinct_pairs_are_unique : DistinctPairsAreUnique
distinct_pairs_are_unique pairs distinct is =
    ascending_equal distinct (distinct_pairs pairs) is.ascending (IsAscending-distinct_pairs pairs) (λ p. is.same p ∙ sym (has_pair-distinct_pairs p pairs))
