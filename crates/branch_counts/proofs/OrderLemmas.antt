-- The rows of a table in order are the distinct pairs that it tells of, each with how often it stands.
use Rattle.std.proofs.Common.{◌≡◌, ℕ, zero, suc, ◌+◌, ◌<◌, ◌≤◌, nat_lt, nat_eq, true, false, cond, ◌||◌, List, [], ◌∷◌, map, get_or, IsPermutation, refl, sym, ap, subst, ◌∙◌, arith}
use Rattle.std.specs.Ordering.{is_lt}
use Rattle.std.specs.List.{AllByRecursion, sum_by}
use Rattle.std.specs.List.Sorted.{IsSorted}
use Rattle.std.proofs.lemmas.Bool.{lt-ltb}
use Rattle.std.proofs.lemmas.Bool.Decides.{nat_tests}
use Rattle.std.proofs.lemmas.List.Sorted.{IsPermutation-map, sum_by-IsPermutation}
use Rattle.std.proofs.lemmas.List.Sums.{sum_by-cons}
use Rattle.sample_model.specs.Laws.{IsAscending, has_pair, IsDistinctPairs}
use Rattle.sample_model.specs.Pairs.{same_pair, pair_lt, times_of}
use Rattle.sample_model.proofs.PairLemmas.{same_pair-refl, same_pair-equal, above-trans, distinct_pairs_are_unique}
use Rattle.sample_model.specs.declared.pair.Pair.{Pair}
use Rattle.branch_counts.specs.Pair.{pair_cmp}
use Rattle.branch_counts.specs.Table.{pair_of, times_of_row, times_in, AllDistinct, Tallies}
use Rattle.branch_counts.specs.Laws.{RowsTallyInAnyOrder, SortedRowsAreDistinctPairs, told_of}

-- one for a pair that is the same
abbrev same : ℕ × ℕ → ℕ × ℕ → ℕ
same p q = cond (same_pair p q) 1 0

same_pair-sym : (p q : ℕ × ℕ) → same_pair p q ≡ false → same_pair q p ≡ false
same_pair-sym p q is = grind (arith, nat_tests)

times_of-self : (p : ℕ × ℕ) (pairs : List (ℕ × ℕ)) → times_of p (p ∷ pairs) ≡ 1 + times_of p pairs
times_of-self p pairs = sum_by-cons (same p) p pairs ∙ ap (λ b. cond b 1 0 + times_of p pairs) (same_pair-refl p)

-- no pair stands twice: said of each pair
at_most_once : (pairs : List (ℕ × ℕ)) → AllDistinct pairs → (p : ℕ × ℕ) → times_of p pairs ≤ 1
at_most_once [] distinct p = omega arith
at_most_once (q ∷ pairs) distinct p =
    elim (same_pair p q) as (λ b. same_pair p q ≡ b → times_of p (q ∷ pairs) ≡ cond b 1 0 + times_of p pairs → times_of p (q ∷ pairs) ≤ 1) [
      | true ↦ λ is count. omega (arith, count, distinct.0, ap (λ (x : ℕ × ℕ). times_of x pairs) (same_pair-equal p q is))
      | false ↦ λ _ count. omega (arith, count, at_most_once pairs distinct.1 p)
    ] refl (sum_by-cons (same p) q pairs)

distinct-once : (pairs : List (ℕ × ℕ)) → ((p : ℕ × ℕ) → times_of p pairs ≤ 1) → AllDistinct pairs
distinct-once [] once = tt
distinct-once (q ∷ pairs) once = (omega (arith, once q, times_of-self q pairs), distinct-once pairs (λ p. omega (arith, once p, sum_by-cons (same p) q pairs)))

-- in another order the rows are distinct too
distinct-permutation : (rows sorted : List Pair) → IsPermutation rows sorted → AllDistinct (map pair_of rows) → AllDistinct (map pair_of sorted)
distinct-permutation rows sorted moves distinct =
    distinct-once (map pair_of sorted) (λ p. omega (arith, at_most_once (map pair_of rows) distinct p, sum_by-IsPermutation (same p) (map pair_of rows) (map pair_of sorted) (IsPermutation-map pair_of rows sorted moves)))

-- a pair that no row has
times_in-absent : (p : ℕ × ℕ) (rows : List Pair) → times_of p (map pair_of rows) ≡ 0 → times_in rows p ≡ 0
times_in-absent p [] none = refl
times_in-absent p (row ∷ rows) none =
    sum_by-cons (times_of_row p) row rows
    ∙ elim (same_pair p (pair_of row)) as (λ b. ◌≡◌ {A = ℕ} (cond b 1 0 + times_of p (map pair_of rows)) 0 → ◌≡◌ {A = ℕ} (cond b row.times 0 + times_in rows p) 0)
    [ true ↦ λ one. absurd (omega (arith, one)) | false ↦ λ rest. omega (arith, times_in-absent p rows (omega (arith, rest))) ]
    (sym (sum_by-cons (same p) (pair_of row) (map pair_of rows)) ∙ none)

-- each row says how often its pair stands
abbrev OwnTimes : (ℕ × ℕ → ℕ) → List Pair → Type 0
OwnTimes times rows = AllByRecursion (λ row. row.times ≡ times (pair_of row)) rows

own_times-other : (p : ℕ × ℕ) (n : ℕ) (times : ℕ × ℕ → ℕ) (rows : List Pair) → times_of p (map pair_of rows) ≡ 0 → OwnTimes times rows → OwnTimes (λ q. cond (same_pair q p) n 0 + times q) rows
own_times-other p n times [] none own = tt
own_times-other p n times (row ∷ rows) none own =
    let split = sym (sum_by-cons (same p) (pair_of row) (map pair_of rows)) ∙ none in
    let rest : times_of p (map pair_of rows) ≡ 0 = omega (arith, split) in
    let other : same_pair p (pair_of row) ≡ false = elim (same_pair p (pair_of row)) as (λ b. ◌≡◌ {A = ℕ} (cond b 1 0 + times_of p (map pair_of rows)) 0 → b ≡ false) [ true ↦ λ one. absurd (omega (arith, one)) | false ↦ λ _. refl ] split in
    (own.0 ∙ sym (ap (λ b. cond b n 0 + times (pair_of row)) (same_pair-sym p (pair_of row) other) ∙ omega arith), own_times-other p n times rows rest own.1)

own_times-same : (f g : ℕ × ℕ → ℕ) (rows : List Pair) → ((p : ℕ × ℕ) → f p ≡ g p) → OwnTimes f rows → OwnTimes g rows
own_times-same f g [] equal own = tt
own_times-same f g (row ∷ rows) equal own = (own.0 ∙ equal (pair_of row), own_times-same f g rows equal own.1)

own_times : (rows : List Pair) → AllDistinct (map pair_of rows) → OwnTimes (times_in rows) rows
own_times [] distinct = tt
own_times (row ∷ rows) distinct =
    let here : times_in (row ∷ rows) (pair_of row) ≡ row.times =
    sum_by-cons (times_of_row (pair_of row)) row rows ∙ ap (λ b. cond b row.times 0 + times_in rows (pair_of row)) (same_pair-refl (pair_of row)) ∙ omega (arith, times_in-absent (pair_of row) rows distinct.0)
    in (
      sym here,
      own_times-same (λ q. cond (same_pair q (pair_of row)) row.times 0 + times_in rows q) (times_in (row ∷ rows)) rows (λ p. sym (sum_by-cons (times_of_row p) row rows))
          (own_times-other (pair_of row) row.times (times_in rows) rows distinct.0 (own_times rows distinct.1)),
    )

-- two rows in order, of different pairs
rising : (x y : Pair) → is_lt (pair_cmp y x) ≡ false → same_pair (pair_of x) (pair_of y) ≡ false → pair_lt (pair_of x) (pair_of y) ≡ true
rising x y order other = grind (arith, nat_tests)

sorted-rest : (row : Pair) (rows : List Pair) → IsSorted pair_cmp (row ∷ rows) → IsSorted pair_cmp rows
sorted-rest row rows sorted k d low high =
    let next : suc k + 1 ≡ suc (k + 1) = omega arith in
    subst (λ (n : ℕ). is_lt (pair_cmp (get_or (row ∷ rows) n d) (get_or (row ∷ rows) (suc k) d)) ≡ false) next (sorted (suc k) d (omega arith) (omega arith))

ascending_rows : (rows : List Pair) → IsSorted pair_cmp rows → AllDistinct (map pair_of rows) → IsAscending (map pair_of rows)
ascending_rows [] sorted distinct = tt
ascending_rows (row ∷ []) sorted distinct = (tt, tt)
ascending_rows (row ∷ next ∷ rows) sorted distinct =
    let rest : IsAscending (map pair_of (next ∷ rows)) = ascending_rows (next ∷ rows) (sorted-rest row (next ∷ rows) sorted) distinct.1 in
    let split = sym (sum_by-cons (same (pair_of row)) (pair_of next) (map pair_of rows)) ∙ distinct.0 in
    let other : same_pair (pair_of row) (pair_of next) ≡ false =
    elim (same_pair (pair_of row) (pair_of next)) as (λ b. ◌≡◌ {A = ℕ} (cond b 1 0 + times_of (pair_of row) (map pair_of rows)) 0 → b ≡ false) [ true ↦ λ one. absurd (omega (arith, one)) | false ↦ λ _. refl ] split in
    let first : pair_lt (pair_of row) (pair_of next) ≡ true = rising row next (sorted 0 row (omega arith) (omega arith)) other in
    ((first, above-trans (pair_of row) (pair_of next) (map pair_of rows) first rest.0), rest)

-- a pair stands in a list where it stands there some times
has_pair-times : (p : ℕ × ℕ) (pairs : List (ℕ × ℕ)) → has_pair p pairs ≡ nat_lt 0 (times_of p pairs)
has_pair-times p [] = refl
has_pair-times p (q ∷ pairs) =
    elim (same_pair p q) as (λ b. times_of p (q ∷ pairs) ≡ cond b 1 0 + times_of p pairs → (b || has_pair p pairs) ≡ nat_lt 0 (times_of p (q ∷ pairs))) [
      | true ↦ λ count. sym (lt-ltb 0 _ (omega (arith, count)))
      | false ↦ λ count. has_pair-times p pairs ∙ ap (nat_lt 0) (sym (omega (arith, count)))
    ] (sum_by-cons (same p) q pairs)

-- a pair has a row where the rows say that it stands
has_row : (p : ℕ × ℕ) (rows : List Pair) → AllByRecursion (λ row. 0 < row.times) rows → nat_lt 0 (times_of p (map pair_of rows)) ≡ nat_lt 0 (times_in rows p)
has_row p [] positive = refl
has_row p (row ∷ rows) positive =
    elim (same_pair p (pair_of row)) as (λ b. times_of p (map pair_of (row ∷ rows)) ≡ cond b 1 0 + times_of p (map pair_of rows) → times_in (row ∷ rows) p ≡ cond b row.times 0 + times_in rows p
    → nat_lt 0 (times_of p (map pair_of (row ∷ rows))) ≡ nat_lt 0 (times_in (row ∷ rows) p)) [
      | true ↦ λ pairs times. lt-ltb 0 _ (omega (arith, pairs)) ∙ sym (lt-ltb 0 _ (omega (arith, times, positive.0)))
      | false ↦ λ pairs times. ap (nat_lt 0) (omega (arith, pairs)) ∙ has_row p rows positive.1 ∙ ap (nat_lt 0) (sym (omega (arith, times)))
    ] (sum_by-cons (same p) (pair_of row) (map pair_of rows)) (sum_by-cons (times_of_row p) row rows)

is_distinct_pairs : (pairs : List (ℕ × ℕ)) (rows : List Pair) → Tallies pairs rows → IsSorted pair_cmp rows → IsDistinctPairs pairs (map pair_of rows)
is_distinct_pairs pairs rows tallies order = record {
  ascending = ascending_rows rows order tallies.table.distinct;
  same = λ p. has_pair-times p (map pair_of rows) ∙ has_row p rows tallies.table.positive ∙ ap (nat_lt 0) (tallies.times p) ∙ sym (has_pair-times p pairs);
}

-- rows are their pairs, each with its times
rows_told : (times : ℕ × ℕ → ℕ) (rows : List Pair) → OwnTimes times rows → map told_of rows ≡ map (λ p. (p, times p)) (map pair_of rows)
rows_told times [] own = refl
rows_told times (row ∷ rows) own =
    ap (λ (n : ℕ). (pair_of row, n) ∷ map told_of rows) own.0 ∙ ap (λ (t : List ((ℕ × ℕ) × ℕ)). (pair_of row, times (pair_of row)) ∷ t) (rows_told times rows own.1)

pub sorted_rows_are_distinct_pairs : SortedRowsAreDistinctPairs
sorted_rows_are_distinct_pairs pairs rows tallies order =
    let own : OwnTimes (λ p. times_of p pairs) rows = own_times-same (times_in rows) (λ p. times_of p pairs) rows tallies.times (own_times rows tallies.table.distinct) in
    rows_told (λ p. times_of p pairs) rows own
    ∙ ap (map (λ p. (p, times_of p pairs))) (distinct_pairs_are_unique pairs (map pair_of rows) (is_distinct_pairs pairs rows tallies order))

-- one for a row without times
idle : Pair → ℕ
idle row = cond (nat_eq row.times 0) 1 0

none_idle : (rows : List Pair) → AllByRecursion (λ row. 0 < row.times) rows → sum_by idle rows ≡ 0
unfolding idle
none_idle [] positive = refl
none_idle (row ∷ rows) positive =
    let busy : nat_eq row.times 0 ≡ false = grind (arith, nat_tests, positive.0) in
    omega (arith, sum_by-cons idle row rows, ap {B = ℕ} (λ b. cond b 1 0) busy, none_idle rows positive.1)

all_busy : (rows : List Pair) → sum_by idle rows ≡ 0 → AllByRecursion (λ row. 0 < row.times) rows
unfolding idle
all_busy [] none = tt
all_busy (row ∷ rows) none = (busy row.times (omega (arith, none, sum_by-cons idle row rows)), all_busy rows (omega (arith, none, sum_by-cons idle row rows)))
  where
    busy : (n : ℕ) → ◌≡◌ {A = ℕ} (cond (nat_eq n 0) 1 0) 0 → 0 < n
    busy zero is = absurd cc
    busy (suc n) is = omega arith

pub rows_tally_in_any_order : RowsTallyInAnyOrder
rows_tally_in_any_order pairs rows others moves tallies = record {
  table = record {
    distinct = distinct-permutation rows others moves tallies.table.distinct;
    positive = all_busy others (sum_by-IsPermutation idle rows others moves ∙ none_idle rows tallies.table.positive);
  };
  times = λ p. sum_by-IsPermutation (times_of_row p) rows others moves ∙ tallies.times p;
  total = sum_by-IsPermutation (λ row. row.times) rows others moves ∙ tallies.total;
}
