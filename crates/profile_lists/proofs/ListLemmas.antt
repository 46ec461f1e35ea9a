-- Targets in order, and those of a key.
use Rattle.std.proofs.Common.{◌≡◌, ◌≤◌, ◌<◌, ℕ, zero, suc, ◌+◌, ◌-◌, ◌==◌, nat_lt, Bool, true, false, cond, ◌&&◌, ◌||◌, List, [], ◌∷◌, map, filter, length, get_or, drop, take, refl, sym, ap, subst, ◌∙◌, arith, All, IsPermutation, IsSorted}
use Rattle.std.proofs.lemmas.Bool.{true≢false}
use Rattle.std.proofs.lemmas.Bool.Decides.{nat_tests}
use Rattle.std.proofs.lemmas.Cmp.{nat_cmp_total, on_total, then_total, back_total}
use Rattle.std.proofs.lemmas.List.{length-drop, get_or-drop, take_rest}
use Rattle.std.proofs.lemmas.List.Sums.{take_while-cons}
use Rattle.std.proofs.lemmas.List.Sorted.{All-permutation, sum_by-IsPermutation, list_any-IsPermutation, IsNonDecreasingBy-from_all_adjacent, IsNonDecreasingBy-drop, IsPartitionedBy-ltb}
use Rattle.std.proofs.lemmas.Map.Keys.{apart_from_distinct, IsDistinct-IsPermutation, sorted_from_all_adjacent}
use Rattle.std.specs.Cmp.{IsTotalOrder}
use Rattle.std.specs.List.{AllByRecursion, IsDistinct, list_any, take_while}
use Rattle.std.specs.List.Sorted.{IsNonDecreasingBy, IsPartitionPoint, IsPartitionedBy, IsStrictlySortedBy}
use Rattle.std.specs.Ordering.{is_lt, nat_cmp, ordering_then, ordering_reverse}
use Rattle.std.specs.declared.cmp.Ordering.{Ordering}
use Rattle.std.specs.declared.cmp.Ordering.TheVariants.{Less, Equal, Greater}
use Rattle.profile_lists.proofs.PairLemmas.{all_index, merged_tells}
use Rattle.profile_lists.specs.Lists.{entry_of, target_cmp, tells, AreTargets}
use Rattle.profile_lists.specs.Pairs.{was_made, pair_of, is_at, times_at, sum_at, place_cmp, AreMerged}
use Rattle.profile_lists.specs.declared.lists.Target.{Target}
use Rattle.profile_lists.specs.declared.pairs.Call.{Call}
use Rattle.profile_lists.specs.declared.pairs.RankedCall.{RankedCall}

-- keys do not fall
not_lower : (s t : Target) → is_lt (target_cmp t s) ≡ false → s.key ≤ t.key
not_lower s t n = grind (arith, nat_tests)

keys_rise : (xs : List Target) → IsSorted target_cmp xs → IsNonDecreasingBy (λ t. t.key) xs
keys_rise xs s = IsNonDecreasingBy-from_all_adjacent (λ t. t.key) xs (λ k d h. not_lower (get_or xs k d) (get_or xs (k + 1) d) (s k d (omega arith) h))

pub lower_parted : (key : ℕ) (xs : List Target) → IsSorted target_cmp xs → IsPartitionedBy (λ t. nat_lt t.key key) xs
lower_parted key xs s = IsPartitionedBy-ltb (λ t. t.key) xs key (keys_rise xs s)

lower_differs : (key : ℕ) (t : Target) → nat_lt t.key key ≡ true → (t.key == key) ≡ false
lower_differs key t e = grind (arith, nat_tests)

-- what stands before the first that passes can go
filter_behind : {T : Type 0} (p : T → Bool) (xs : List T) (s : ℕ) → s ≤ length xs → ((k : ℕ) (d : T) → k < s → p (get_or xs k d) ≡ false) → filter p (drop s xs) ≡ filter p xs
filter_behind p xs zero h a = refl
filter_behind p [] (suc s) h a = refl
filter_behind p (x ∷ xs) (suc s) h a =
    filter_behind p xs s (omega arith) (λ k d g. a (suc k) d (omega arith))
    ∙ sym (ap (λ v. cond v (x ∷ filter p xs) (filter p xs)) (a 0 x (omega arith)))

filter_none : {T : Type 0} (p : T → Bool) (xs : List T) → ((k : ℕ) (d : T) → k < length xs → p (get_or xs k d) ≡ false) → filter p xs ≡ []
filter_none p [] a = refl
filter_none p (x ∷ xs) a =
    ap (λ v. cond v (x ∷ filter p xs) (filter p xs)) (a 0 x (omega arith)) ∙ filter_none p xs (λ k d g. a (suc k) d (omega arith))

above_differs : (key n : ℕ) → key ≤ n → (n == key) ≡ false → (m : ℕ) → n ≤ m → (m == key) ≡ false
above_differs key n low e m up = grind (arith, nat_tests)

not_below : (key n : ℕ) → nat_lt n key ≡ false → key ≤ n
not_below key n e = grind (arith, nat_tests)

front_by : (b : Bool) (x : Target) (front passing : List Target) → (b ≡ true → front ≡ passing) → (b ≡ false → passing ≡ []) → cond b (x ∷ front) [] ≡ cond b (x ∷ passing) passing
front_by true x front passing same none = ap (λ ys. x ∷ ys) (same refl)
front_by false x front passing same none = sym (none refl)

-- those of a key stand in front, where no lesser key is
front_of_key : (key : ℕ) (xs : List Target) → IsNonDecreasingBy (λ t. t.key) xs → ((k : ℕ) (d : Target) → k < length xs → key ≤ (get_or xs k d).key) → take_while (λ t. t.key == key) xs ≡ filter (λ t. t.key == key) xs
front_of_key key [] rise low = refl
front_of_key key (x ∷ xs) rise low =
    let rest = front_of_key key xs (λ i j d h g. rise (suc i) (suc j) d (omega arith) (omega arith)) (λ k d h. low (suc k) d (omega arith)) in
    take_while-cons (λ t. t.key == key) x xs
    ∙ front_by (x.key == key) x (take_while (λ t. t.key == key) xs) (filter (λ t. t.key == key) xs) (λ _. rest)
    (λ e. filter_none (λ t. t.key == key) xs (λ k d h. above_differs key x.key (low 0 x (omega arith)) e (get_or xs k d).key (rise 0 (suc k) d (omega arith) (omega arith))))

pub of_key : (key : ℕ) (xs : List Target) (start : ℕ) → IsSorted target_cmp xs → start ≤ length xs → IsPartitionPoint (λ t. nat_lt t.key key ≡ true) (λ t. nat_lt t.key key ≡ false) xs start → take_while (λ t. t.key == key) (take (length xs - start) (drop start xs)) ≡ filter (λ t. t.key == key) xs
of_key key xs start s h low =
    let size : length (drop start xs) ≡ length xs - start = length-drop start xs in
    ap (take_while (λ t. t.key == key)) (take_rest xs start)
    ∙ front_of_key key (drop start xs) (IsNonDecreasingBy-drop (λ t. t.key) start xs (keys_rise xs s))
    (λ k d g.
    not_below key (get_or (drop start xs) k d).key (ap (λ t. nat_lt t.key key) (get_or-drop start xs k d) ∙ low.1 (start + k) d (omega arith) (omega (arith, size, g))))
    ∙ filter_behind (λ t. t.key == key) xs start h (λ k d g. lower_differs key (get_or xs k d) (low.0 k d (omega arith) g))

-- what was made
made_pairs : (ranks : List ℕ) (calls : List Call) → AllByRecursion (λ p. 0 < p.times) (map (pair_of ranks) (filter was_made calls))
made_pairs ranks [] = tt
made_pairs ranks (call ∷ calls) =
    elim (was_made call) as (λ b. was_made call ≡ b → AllByRecursion (λ p. 0 < p.times) (map (pair_of ranks) (cond b (call ∷ filter was_made calls) (filter was_made calls)))) [
      | true ↦ λ e. (grind (arith, nat_tests), made_pairs ranks calls)
      | false ↦ λ _. made_pairs ranks calls
    ] refl

pub all_made : (ranks : List ℕ) (calls : List Call) (old new : List RankedCall) → old ≡ map (pair_of ranks) (filter was_made calls) → IsPermutation old new → All (λ p. 0 < p.times) new
all_made ranks calls old new e p = All-permutation (λ q. 0 < q.times) old new p (subst (All (λ q. 0 < q.times)) (sym e) (all_index (λ q. 0 < q.times) (map (pair_of ranks) (filter was_made calls)) (made_pairs ranks calls)))

pub same_sums : (old new : List RankedCall) → IsPermutation old new → (key rank : ℕ) → sum_at new key rank ≡ sum_at old key rank
same_sums old new p key rank = sum_by-IsPermutation (times_at key rank) old new p

-- targets of different places differ
same_place : Target → Target → Bool
same_place s t = s.key == t.key && s.rank == t.rank

place_flips : (s t : Target) → same_place s t ≡ same_place t s
unfolding same_place
place_flips s t = grind (arith, nat_tests)

less_differs : (p q : RankedCall) → place_cmp p q ≡ Less → same_place (entry_of p) (entry_of q) ≡ false
unfolding same_place
less_differs p q e = grind (arith, nat_tests)

all_differ : (p : RankedCall) (pairs : List RankedCall) → AllByRecursion (λ q. place_cmp p q ≡ Less) pairs → AllByRecursion (λ t. same_place (entry_of p) t ≡ false) (map entry_of pairs)
all_differ p [] above = tt
all_differ p (q ∷ pairs) above = (less_differs p q above.0, all_differ p pairs above.1)

places_differ : (pairs : List RankedCall) → IsStrictlySortedBy place_cmp pairs → IsDistinct same_place (map entry_of pairs)
unfolding IsStrictlySortedBy IsDistinct
places_differ [] s = tt
places_differ (p ∷ pairs) s = (all_differ p pairs s.0, places_differ pairs s.1)

target_total : IsTotalOrder target_cmp
target_total = then_total (on_total (λ t. t.key) nat_cmp_total) (then_total (back_total (on_total (λ t. t.times.0) nat_cmp_total)) (on_total (λ t. t.rank) nat_cmp_total))

next_above : (s t : Target) → is_lt (target_cmp t s) ≡ false → same_place s t ≡ false → target_cmp s t ≡ Less
unfolding same_place
next_above s t n differ =
    elim (target_cmp s t) as (λ r. target_cmp s t ≡ r → r ≡ Less) [
      | Less ↦ λ _. refl
      | Equal ↦ λ e. absurd (true≢false (sym (level s t e) ∙ differ))
      | Greater ↦ λ e. absurd (true≢false (sym (ap is_lt (target_total.antisymm t s ∙ ap ordering_reverse e)) ∙ n))
    ] refl
  where
    then_first : (r q : Ordering) → ordering_then r q ≡ Equal → r ≡ Equal
    then_first Less q e = cc
    then_first Equal q e = refl
    then_first Greater q e = cc

    then_second : (r q : Ordering) → ordering_then r q ≡ Equal → q ≡ Equal
    then_second Less q e = cc
    then_second Equal q e = e
    then_second Greater q e = cc

    nat_level : (x y : ℕ) → nat_cmp x y ≡ Equal → (x == y) ≡ true
    nat_level x y e = grind (arith, nat_tests)

    both : (a b : Bool) → a ≡ true → b ≡ true → (a && b) ≡ true
    both true b e f = f
    both false b e f = e

    level : (s t : Target) → target_cmp s t ≡ Equal → same_place s t ≡ true
    level s t e =
        both (s.key == t.key) (s.rank == t.rank) (nat_level s.key t.key (then_first (nat_cmp s.key t.key) (ordering_then (nat_cmp t.times.0 s.times.0) (nat_cmp s.rank t.rank)) e))
        (nat_level s.rank t.rank (then_second (nat_cmp t.times.0 s.times.0) (nat_cmp s.rank t.rank) (then_second (nat_cmp s.key t.key) (ordering_then (nat_cmp t.times.0 s.times.0) (nat_cmp s.rank t.rank)) e)))

ascend : (xs : List Target) → IsSorted target_cmp xs → IsDistinct same_place xs → IsStrictlySortedBy target_cmp xs
unfolding IsStrictlySortedBy
ascend [] s differ = tt
ascend (x ∷ xs) s differ =
    sorted_from_all_adjacent target_total (x ∷ xs) x (λ k h.
    next_above (get_or (x ∷ xs) k x) (get_or (x ∷ xs) (k + 1) x) (s k x (omega arith) h) (apart_from_distinct same_place (x ∷ xs) k (k + 1) x differ (omega arith) h))

any_map : (key rank times : ℕ) (pairs : List RankedCall) → list_any (tells key rank times) (map entry_of pairs) ≡ list_any (λ q. is_at key rank q && (q.times == times)) pairs
any_map key rank times [] = refl
any_map key rank times (q ∷ pairs) = λ i. and_assoc (q.key == key) (q.rank == rank) (q.times == times) i || any_map key rank times pairs i
  where
    and_assoc : (a b c : Bool) → (a && (b && c)) ≡ ((a && b) && c)
    and_assoc true b c = refl
    and_assoc false b c = refl

all_recursion : (P : RankedCall → Type 0) (xs : List RankedCall) → All P xs → AllByRecursion P xs
all_recursion P [] all = tt
all_recursion P (x ∷ xs) all = (all 0 x (omega arith), all_recursion P xs (λ k d h. all (suc k) d (omega arith)))

pub are_targets : (ranks : List ℕ) (calls : List Call) (old sorted merged : List RankedCall) (targets : List Target) → old ≡ map (pair_of ranks) (filter was_made calls) → IsPermutation old sorted → AreMerged sorted merged → IsPermutation (map entry_of merged) targets → IsSorted target_cmp targets → AreTargets ranks calls targets
are_targets ranks calls old sorted merged targets e p m q s = record {
  ascending = ascend targets s (IsDistinct-IsPermutation same_place place_flips (map entry_of merged) targets q (places_differ merged m.ascending));
  told = λ key rank times.
      sym (list_any-IsPermutation (tells key rank times) (map entry_of merged) targets q)
      ∙ any_map key rank times merged
      ∙ merged_tells merged key rank times m.ascending (all_recursion (λ r. 0 < r.times) merged m.made)
      ∙ ap (λ n. nat_lt 0 times && n == times) (m.sums key rank ∙ same_sums old sorted p key rank ∙ ap (λ xs. sum_at xs key rank) e);
}
