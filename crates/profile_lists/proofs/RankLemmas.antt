-- Ranks, from a sorted list of entries.
use Rattle.std.proofs.Common.{◌≡◌, ◌≢◌, ◌⊎◌, ◌<◌, ℕ, zero, suc, ◌+◌, true, false, nat_eq, List, [], ◌∷◌, ◌++◌, map, length, get_or, set, refl, sym, ap, subst, ◌∙◌, inl, inr, arith, All, Contains, IsPermutation, get_or-set_same, get_or-set_other, zero-add}
use Rattle.std.proofs.lemmas.Bool.{true≢false}
use Rattle.std.proofs.lemmas.Bool.Decides.{nat_tests}
use Rattle.std.proofs.lemmas.Cmp.{nat_cmp_total, nat_list_cmp_total, on_total, then_total, tied_itself}
use Rattle.std.proofs.lemmas.List.{length-map, length-set, get_or_default, map-append}
use Rattle.std.proofs.lemmas.List.FromFn.{length-range_with_len, get_or-range_with_len, length-map-range_with_len, get_or-map-range_with_len, map-range_with_len_more}
use Rattle.std.proofs.lemmas.List.Sorted.{IsPermutation-map, length_permutation, All-permutation, Contains-permutation}
use Rattle.std.proofs.lemmas.Map.Keys.{Less-from_sorted, apart_from_distinct, IsDistinct-from_apart, IsDistinct-IsPermutation, sorted_from_all_adjacent}
use Rattle.std.specs.Cmp.{IsTotalOrder}
use Rattle.std.specs.Cmp.Lexicographic.{slice_cmp}
use Rattle.std.specs.List.{IsDistinct, range_with_len}
use Rattle.std.specs.List.Sorted.{IsSortedByKey, IsStrictlySortedBy}
use Rattle.std.specs.Ordering.{is_lt, nat_cmp, ordering_reverse}
use Rattle.std.specs.declared.cmp.Ordering.TheVariants.{Less, Equal, Greater}
use Rattle.profile_model.proofs.OrderLemmas.{nat_apart, then_second}
use Rattle.list_lemmas.proofs.Sums.{map_map}
use Rattle.profile_lists.specs.Ranks.{entry_cmp, entry_of, number_cmp, AreRanks}
use Rattle.profile_lists.specs.Told.{told}
use Rattle.profile_lists.specs.declared.ranks.WeighedName.{WeighedName}

get_map : {S T : Type 0} (f : S → T) (xs : List S) (k : ℕ) (d : T) (e : S) → k < length xs → get_or (map f xs) k d ≡ f (get_or xs k e)
get_map f [] k d e h = absurd (omega arith)
get_map f (x ∷ xs) zero d e h = refl
get_map f (x ∷ xs) (suc k) d e h = get_map f xs k d e (omega arith)

map_itself : (xs : List ℕ) → map (λ x. x) xs ≡ xs
map_itself [] = refl
map_itself (x ∷ xs) = ap (λ ys. x ∷ ys) (map_itself xs)

entry_total : IsTotalOrder entry_cmp
entry_total = then_total (on_total (λ e. e.0) nat_cmp_total) (then_total (on_total (λ e. e.1) nat_list_cmp_total) (on_total (λ e. e.2) nat_cmp_total))

number_total : (names : List (List ℕ)) (weights : List ℕ) → IsTotalOrder (number_cmp names weights)
number_total names weights = on_total (entry_of names weights) entry_total

flips : (x y : ℕ) → nat_eq x y ≡ nat_eq y x
flips x y = grind (arith, nat_tests)

-- the numbers in order
ids_permute : (names : List (List ℕ)) (weights : List ℕ) (n : ℕ) (old new : List WeighedName) → map told old ≡ map (entry_of names weights) (range_with_len 0 n) → IsPermutation (map told old) (map told new) → IsPermutation (range_with_len 0 n) (map (λ e. e.id) new)
ids_permute names weights n old new e p =
    let q : IsPermutation (map (λ v. v.2) (map (entry_of names weights) (range_with_len 0 n))) (map (λ v. v.2) (map told new)) =
    IsPermutation-map (λ v. v.2) (map (entry_of names weights) (range_with_len 0 n)) (map told new) (subst (λ xs. IsPermutation xs (map told new)) e p) in
    let left : map (λ v. v.2) (map (entry_of names weights) (range_with_len 0 n)) ≡ range_with_len 0 n = map_map (λ v. v.2) (entry_of names weights) (range_with_len 0 n) ∙ map_itself (range_with_len 0 n) in
    let right : map (λ v. v.2) (map told new) ≡ map (λ x. x.id) new = map_map (λ v. v.2) told new in
    subst (λ ys. IsPermutation (range_with_len 0 n) ys) right (subst (λ xs. IsPermutation xs (map (λ v. v.2) (map told new))) left q)

range_apart : (n i j d : ℕ) → i < j → j < length (range_with_len 0 n) → nat_eq (get_or (range_with_len 0 n) i d) (get_or (range_with_len 0 n) j d) ≡ false
range_apart n i j d h g =
    let low : j < n = omega (arith, length-range_with_len 0 n) in
    let a : get_or (range_with_len 0 n) i d ≡ 0 + i = get_or-range_with_len 0 n i d (omega arith) in
    let b : get_or (range_with_len 0 n) j d ≡ 0 + j = get_or-range_with_len 0 n j d low in
    grind (arith, nat_tests)

pub ids_distinct : (n : ℕ) (ids : List ℕ) → IsPermutation (range_with_len 0 n) ids → IsDistinct nat_eq ids
ids_distinct n ids p = IsDistinct-IsPermutation nat_eq flips (range_with_len 0 n) ids p (IsDistinct-from_apart nat_eq (range_with_len 0 n) (range_apart n))

pub ids_length : (n : ℕ) (ids : List ℕ) → IsPermutation (range_with_len 0 n) ids → length ids ≡ n
ids_length n ids p = length_permutation (range_with_len 0 n) ids p ∙ length-range_with_len 0 n

range_within : (n : ℕ) → All (λ i. i < n) (range_with_len 0 n)
range_within n = λ k d h.
    let low : k < n = omega (arith, length-range_with_len 0 n) in
    let a : get_or (range_with_len 0 n) k d ≡ 0 + k = get_or-range_with_len 0 n k d low in
    omega arith

pub ids_within : (n : ℕ) (ids : List ℕ) → IsPermutation (range_with_len 0 n) ids → All (λ i. i < n) ids
ids_within n ids p = All-permutation (λ i. i < n) (range_with_len 0 n) ids p (range_within n)

entries_told : (names : List (List ℕ)) (weights : List ℕ) (n : ℕ) → All (λ v. v ≡ entry_of names weights v.2) (map (entry_of names weights) (range_with_len 0 n))
entries_told names weights n = λ k d h.
    let low : k < n = omega (arith, length-map-range_with_len (entry_of names weights) 0 n) in
    let a : get_or (map (entry_of names weights) (range_with_len 0 n)) k d ≡ entry_of names weights k = get_or-map-range_with_len (entry_of names weights) 0 n k k d low (omega arith) in
    a ∙ ap (λ v. entry_of names weights v.2) (sym a)

each_told : (names : List (List ℕ)) (weights : List ℕ) (n : ℕ) (old new : List WeighedName) → map told old ≡ map (entry_of names weights) (range_with_len 0 n) → IsPermutation (map told old) (map told new) → All (λ v. v ≡ entry_of names weights v.2) (map told new)
each_told names weights n old new e p =
    All-permutation (λ v. v ≡ entry_of names weights v.2) (map (entry_of names weights) (range_with_len 0 n)) (map told new) (subst (λ xs. IsPermutation xs (map told new)) e p) (entries_told names weights n)

not_after : (names : List (List ℕ)) (weights : List ℕ) (i j : ℕ) → is_lt (number_cmp names weights j i) ≡ false → nat_eq i j ≡ false → number_cmp names weights i j ≡ Less
not_after names weights i j n ne =
    let o = number_total names weights in
    elim (number_cmp names weights i j) as (λ r. number_cmp names weights i j ≡ r → r ≡ Less) [
      | Less ↦ λ _. refl
      | Equal ↦ λ e.
          let same : i ≡ j = nat_apart i j (then_second (slice_cmp nat_cmp (entry_of names weights i).1 (entry_of names weights j).1) (nat_cmp i j) (then_second (nat_cmp (entry_of names weights i).0 (entry_of names weights j).0) _ e)) in
          let yes_same : nat_eq i j ≡ true = grind (arith, nat_tests) in
          absurd (true≢false (sym yes_same ∙ ne))
      | Greater ↦ λ e. absurd (true≢false (sym (ap is_lt (o.antisymm j i ∙ ap ordering_reverse e)) ∙ n))
    ] refl

ids_ascend : (names : List (List ℕ)) (weights : List ℕ) (n : ℕ) (old new : List WeighedName) → map told old ≡ map (entry_of names weights) (range_with_len 0 n) → IsPermutation (map told old) (map told new) → IsSortedByKey told entry_cmp new → IsStrictlySortedBy (number_cmp names weights) (map (λ e. e.id) new)
ids_ascend names weights n old [] e p s = sorted_from_all_adjacent (number_total names weights) [] 0 (λ k h. absurd (omega arith))
ids_ascend names weights n old (x ∷ xs) e p s =
    let new = x ∷ xs in
    let ids = map (λ y. y.id) new in
    let size : length ids ≡ length new = length-map new (λ y. y.id) in
    let tolds : length (map told new) ≡ length new = length-map new told in
    sorted_from_all_adjacent (number_total names weights) ids 0 (λ k h.
    let k1 : k + 1 < length new = omega arith in
    let k0 : k < length new = omega arith in
    let a = get_or new k x in
    let b = get_or new (k + 1) x in
    let ia : get_or ids k 0 ≡ a.id = get_map (λ y. y.id) new k 0 x k0 in
    let ib : get_or ids (k + 1) 0 ≡ b.id = get_map (λ y. y.id) new (k + 1) 0 x k1 in
    let every = each_told names weights n old new e p in
    let ta : told a ≡ entry_of names weights a.id =
    let g : get_or (map told new) k (told x) ≡ told a = get_map told new k (told x) x k0 in
    sym g ∙ every k (told x) (omega arith) ∙ ap (λ v. entry_of names weights v.2) g in
    let tb : told b ≡ entry_of names weights b.id =
    let g : get_or (map told new) (k + 1) (told x) ≡ told b = get_map told new (k + 1) (told x) x k1 in
    sym g ∙ every (k + 1) (told x) (omega arith) ∙ ap (λ v. entry_of names weights v.2) g in
    let down : is_lt (number_cmp names weights b.id a.id) ≡ false =
    (λ i. is_lt (entry_cmp (sym tb i) (sym ta i))) ∙ s k x (omega arith) k1 in
    let apart : nat_eq (get_or ids k 0) (get_or ids (k + 1) 0) ≡ false = apart_from_distinct nat_eq ids k (k + 1) 0 (ids_distinct n ids (ids_permute names weights n old new e p)) (omega arith) h in
    (λ i. number_cmp names weights (ia i) (ib i)) ∙ not_after names weights a.id b.id down ((λ i. nat_eq (sym ia i) (sym ib i)) ∙ apart))

nat_before : (r s : ℕ) → r < s → nat_cmp r s ≡ Less
nat_before r s h = grind (arith, nat_tests)

three : (r s : ℕ) → (r < s) ⊎ ((r ≡ s) ⊎ (s < r))
three r s = grind arith

range_has : (n i : ℕ) → i < n → Contains (range_with_len 0 n) i
range_has n i h = (i, omega (arith, length-range_with_len 0 n), get_or-range_with_len 0 n i i h ∙ zero-add i)

has_place : (ids : List ℕ) (i : ℕ) → Contains ids i → (r : ℕ) × (r < length ids) × (get_or ids r 0 ≡ i)
has_place ids i c = (c.0, c.1, get_or_default ids c.0 0 i c.1 ∙ c.2)

pub are_ranks : (names : List (List ℕ)) (weights : List ℕ) (old new : List WeighedName) (ids ranks : List ℕ) → map told old ≡ map (entry_of names weights) (range_with_len 0 (length weights)) → IsPermutation (map told old) (map told new) → IsSortedByKey told entry_cmp new → ids ≡ map (λ e. e.id) new → length ranks ≡ length ids → ((r : ℕ) → r < length ids → get_or ranks (get_or ids r 0) 0 ≡ r) → AreRanks names weights ranks ids
are_ranks names weights old new ids ranks e p s is len back =
    let n = length weights in
    let perm : IsPermutation (range_with_len 0 n) ids = subst (λ xs. IsPermutation (range_with_len 0 n) xs) (sym is) (ids_permute names weights n old new e p) in
    let size : length ids ≡ n = ids_length n ids perm in
    let up : IsStrictlySortedBy (number_cmp names weights) ids = subst (IsStrictlySortedBy (number_cmp names weights)) (sym is) (ids_ascend names weights n old new e p s) in
    let place : (i : ℕ) → i < n → (r : ℕ) × (r < length ids) × (get_or ids r 0 ≡ i) = λ i h. has_place ids i (Contains-permutation (range_with_len 0 n) ids i perm (range_has n i h)) in
    let rank_is : (i : ℕ) (h : i < n) → get_or ranks i 0 ≡ (place i h).0 = λ i h. ap (λ j. get_or ranks j 0) (sym (place i h).2) ∙ back (place i h).0 (place i h).1 in
    let o = number_total names weights in
    record {
      len = len ∙ size;
      as_many = size;
      below = λ i h. subst (λ r. r < length ids) (sym (rank_is i h)) (place i h).1;
      back = λ i h. ap (λ r. get_or ids r 0) (rank_is i h) ∙ (place i h).2;
      known = λ r h. ids_within n ids perm r 0 h;
      order = λ i j h g.
          let r = (place i h).0 in
          let q = (place j g).0 in
          let ri : get_or ids r 0 ≡ i = (place i h).2 in
          let qj : get_or ids q 0 ≡ j = (place j g).2 in
          let two : nat_cmp (get_or ranks i 0) (get_or ranks j 0) ≡ nat_cmp r q = λ m. nat_cmp (rank_is i h m) (rank_is j g m) in
          let goal : nat_cmp r q ≡ number_cmp names weights i j =
          elim (three r q) as (λ _. nat_cmp r q ≡ number_cmp names weights i j) [
            | inl before ↦
                let less : number_cmp names weights i j ≡ Less = (λ m. number_cmp names weights (sym ri m) (sym qj m)) ∙ Less-from_sorted (number_cmp names weights) ids r q 0 up before (place j g).1 in
                nat_before r q before ∙ sym less
            | inr other ↦ elim other as (λ _. nat_cmp r q ≡ number_cmp names weights i j) [
              | inl same ↦
                  let ij : i ≡ j = sym ri ∙ ap (λ m. get_or ids m 0) same ∙ qj in
                  ap (nat_cmp r) (sym same) ∙ tied_itself nat_cmp_total r ∙ sym (ap (number_cmp names weights i) (sym ij) ∙ tied_itself o i)
              | inr behind ↦
                  let less : number_cmp names weights j i ≡ Less = (λ m. number_cmp names weights (sym qj m) (sym ri m)) ∙ Less-from_sorted (number_cmp names weights) ids q r 0 up behind (place i h).1 in
                  nat_cmp_total.antisymm r q ∙ ap ordering_reverse (nat_before q r behind) ∙ sym (o.antisymm i j ∙ ap ordering_reverse less)
            ]
          ] in
          two ∙ goal;
    }

-- one place more
pub record PlacesSoFar (ids ranks : List ℕ) (done : ℕ) : Type 0 where
  pub len : length ranks ≡ length ids
  pub back : (r : ℕ) → r < done → get_or ranks (get_or ids r 0) 0 ≡ r

pub one_more_place : (ids ranks : List ℕ) (done : ℕ) → done < length ids → IsDistinct nat_eq ids → All (λ id. id < length ids) ids → PlacesSoFar ids ranks done → PlacesSoFar ids (set ranks (get_or ids done 0) done) (done + 1)
one_more_place ids ranks done h distinct within far =
    let id = get_or ids done 0 in
    let low : id < length ranks = omega (arith, within done 0 h, far.len) in
    record {
      len = length-set ranks id done ∙ far.len;
      back = λ r g.
          elim (three r done) as (λ _. get_or (set ranks id done) (get_or ids r 0) 0 ≡ r) [
            | inl before ↦
                let ne : nat_eq (get_or ids r 0) id ≡ false = apart_from_distinct nat_eq ids r done 0 distinct before h in
                let apart : get_or ids r 0 ≢ id = λ e. true≢false (sym (ap (nat_eq (get_or ids r 0)) (sym e) ∙ itself (get_or ids r 0)) ∙ ne) in
                get_or-set_other ranks id (get_or ids r 0) done 0 apart ∙ far.back r before
            | inr other ↦ elim other as (λ _. get_or (set ranks id done) (get_or ids r 0) 0 ≡ r) [
              | inl same ↦ ap (λ k. get_or (set ranks id done) (get_or ids k 0) 0) same ∙ get_or-set_same ranks id done 0 low ∙ sym same
              | inr behind ↦ absurd (omega arith)
            ]
          ];
    }
  where
    itself : (x : ℕ) → nat_eq x x ≡ true
    itself x = grind (arith, nat_tests)

pub one_more_entry : (names : List (List ℕ)) (weights : List ℕ) (i : ℕ) (entries : List WeighedName) (e : WeighedName) → map told entries ≡ map (entry_of names weights) (range_with_len 0 i) → told e ≡ entry_of names weights i → map told (entries ++ e ∷ []) ≡ map (entry_of names weights) (range_with_len 0 (i + 1))
one_more_entry names weights i entries e far is =
    map-append told entries (e ∷ []) ∙ (λ m. far m ++ is m ∷ []) ∙ sym (map-range_with_len_more (entry_of names weights) 0 i i (zero-add i))

pub permuted : (names : List (List ℕ)) (weights : List ℕ) (old new : List WeighedName) (ids : List ℕ) → map told old ≡ map (entry_of names weights) (range_with_len 0 (length weights)) → IsPermutation (map told old) (map told new) → ids ≡ map (λ e. e.id) new → IsPermutation (range_with_len 0 (length weights)) ids
permuted names weights old new ids e p is =
    subst (λ xs. IsPermutation (range_with_len 0 (length weights)) xs) (sym is) (ids_permute names weights (length weights) old new e p)
