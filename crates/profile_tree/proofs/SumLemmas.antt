-- Counts, targets and heads of a profile, by the numbers of keys and names.
use Rattle.std.proofs.Common.{◌≡◌, ◌≤◌, ◌<◌, ℕ, zero, suc, ◌+◌, ◌^◌, ◌==◌, nat_lt, Bool, true, false, cond, ◌&&◌, List, [], ◌∷◌, map, filter, length, get_or, replicate, sum_by, All, Option, None, Some, refl, sym, ap, subst, ◌∙◌, inl, inr, arith, add-zero, zero-add}
use Rattle.std.proofs.lemmas.Bool.Decides.{nat_tests}
use Rattle.std.proofs.lemmas.List.{length-replicate}
use Rattle.std.proofs.lemmas.List.Sums.{sum_by-cons}
use Rattle.std.specs.Cmp.Lexicographic.{bytes_decides}
use Rattle.std.specs.List.{AllByRecursion, range_with_len, slice_get}
use Rattle.std.specs.List.Sorted.{IsStrictlySortedBy}
use Rattle.std.specs.declared.cmp.Ordering.{Ordering}
use Rattle.key_types.proofs.NumberLemmas.{one_number_each}
use Rattle.key_types.specs.Numbers.{IsNumbered}
use Rattle.key_types.specs.declared.key.Key.{Key}
use Rattle.profile_lists.specs.Ranks.{AreRanks}
use Rattle.profile_model.proofs.OrderedLemmas.{Above}
use Rattle.profile_model.specs.Laws.{TellsApart}
use Rattle.profile_model.specs.Profile.{capped, count_of, target_of, head_of, total_of, total_of_function}
use Rattle.profile_model.specs.Ways.{Way, to_function, same_name, same_step, same_way, leads_to}
use Rattle.profile_tree.proofs.ListLemmas.{and_first, and_second, and_both, bool_same, bool_cases, nat_same, nat_refl, Among, all_among, among_range, not_among_above, sum_map, sum_filter, sum_none, sum_same, sum_at_most, one_of_range}
use Rattle.profile_tree.proofs.WayLemmas.{IsNamed, key_is_named, names_once, ways_once, keys_once, same_steps, step_itself, same_ways, way_itself}
use Rattle.profile_tree.specs.Known.{HasNames, IsGiven}
use Rattle.profile_tree.specs.Said.{said, way_at}
use Rattle.profile_tree.specs.Stated.{AreGiven}
use Rattle.profile_tree.specs.Steps.{named, name_at, steps_of_given, steps_at}
use Rattle.profile_tree.specs.Sums.{calls_of, entries_of, root_total, share}
use Rattle.profile_tree.specs.declared.head.Head.{Head}
use Rattle.profile_lists.specs.Pairs.{pair_of, sum_at, times_at, was_made}
use Rattle.profile_lists.specs.declared.pairs.Call.{Call}

pub all_to_each : {T : Type 0} (P : T → Type 0) (x : T) (xs : List T) → All P xs → Among x xs → P x
all_to_each P x [] all h = absurd h
all_to_each P x (y ∷ xs) all h = elim h as (λ _. P x) [
  | inl e ↦ subst P (sym e) (all 0 y (omega arith))
  | inr r ↦ all_to_each P x xs (λ k d g. all (suc k) d (omega arith)) r
]

pub key_there : (keys : List Key) (k : ℕ) → k < length keys → (key : Key) × (slice_get keys k ≡ Some key)
key_there [] k h = absurd (omega arith)
key_there (x ∷ keys) zero h = (x, refl)
key_there (x ∷ keys) (suc k) h = key_there keys k (omega arith)

pub given_among : (keys : List Key) (k : ℕ) (key : Key) → slice_get keys k ≡ Some key → Among key keys
given_among [] k key e = none_some key e
  where
    none_some : (x : Key) → None ≡ Some x → ⊥
    none_some x e = cc
given_among (x ∷ keys) zero key e = inl (some_inner key x (sym e))
  where
    some_inner : (x y : Key) → Some x ≡ Some y → x ≡ y
    some_inner x y e = cc
given_among (x ∷ keys) (suc k) key e = inr (given_among keys k key e)

-- what is known of what was counted
pub record Given (names : List (List ℕ)) (keys : List Key) (calls : List Call) (heads : List Head) : Type 0 where
  pub names_apart : IsNumbered names
  pub keys_apart : IsNumbered keys
  pub given : AreGiven (length names) keys calls heads

pub given_alone : (names : List (List ℕ)) (keys : List Key) → IsNumbered names → IsNumbered keys → All (HasNames (length names)) keys → Given names keys [] []
given_alone names keys names_apart keys_apart key_names = record {
  names_apart = names_apart;
  keys_apart = keys_apart;
  given = record { key_names = key_names; called = λ k d h. absurd (omega arith); entered = λ k d h. absurd (omega arith) };
}

module _ (names : List (List ℕ)) (keys : List Key) (counts : List ℕ) (calls : List Call) (heads : List Head) (g : Given names keys calls heads) where
  pub steps_are_named : (k : ℕ) → AllByRecursion (IsNamed (length names)) (steps_at keys k)
  steps_are_named k =
      elim (slice_get keys k) as (λ o. slice_get keys k ≡ o → AllByRecursion (IsNamed (length names)) (steps_of_given o)) [
        | None ↦ λ _. tt
        | Some key ↦ λ e. key_is_named (length names) key (all_to_each (HasNames (length names)) key keys g.given.key_names (given_among keys k key e))
      ] refl

  numbers_alike : (k j : ℕ) → k < length keys → j < length keys → way_at names keys k ≡ way_at names keys j → k ≡ j
  numbers_alike k j h f e =
      let a = key_there keys k h in
      let b = key_there keys j f in
      let steps : steps_at keys k ≡ steps_at keys j = ways_once names g.names_apart (steps_at keys k) (steps_at keys j) (steps_are_named k) (steps_are_named j) e in
      let same : a.0 ≡ b.0 = keys_once a.0 b.0 (sym (ap steps_of_given a.1) ∙ steps ∙ ap steps_of_given b.1) in
      (one_number_each keys k j a.0 b.0 g.keys_apart a.1 b.1).1 same

  pub ways_apart : (k j : ℕ) → k < length keys → j < length keys → same_way (way_at names keys k) (way_at names keys j) ≡ (j == k)
  ways_apart k j h f =
      bool_same (same_way (way_at names keys k) (way_at names keys j)) (j == k)
      (λ e. let same : k ≡ j = numbers_alike k j h f (same_ways (way_at names keys k) (way_at names keys j) e) in grind (arith, nat_tests))
      (λ e. subst (λ i. same_way (way_at names keys k) (way_at names keys i) ≡ true) (sym (nat_same j k e)) (way_itself (way_at names keys k)))

  pub same_name_is : (i j : ℕ) → i < length names → j < length names → same_name (name_at names i) (name_at names j) ≡ (j == i)
  same_name_is i j h f =
      bool_same (same_name (name_at names i) (name_at names j)) (j == i)
      (λ e. let same : i ≡ j = names_once names g.names_apart i j h f ((bytes_decides (name_at names i) (name_at names j)).0 e) in grind (arith, nat_tests))
      (λ e. (bytes_decides (name_at names i) (name_at names j)).1 (ap (name_at names) (sym (nat_same j i e))))

  same_function_is : (i j : ℕ) → i < length names → j < length names → (same_step (to_function (name_at names i)) (to_function (name_at names j)) && true) ≡ (j == i)
  same_function_is i j h f =
      bool_same (same_step (to_function (name_at names i)) (to_function (name_at names j)) && true) (j == i)
      (λ e. let same : i ≡ j = names_once names g.names_apart i j h f (ap (λ s. s.name) (same_steps (to_function (name_at names i)) (to_function (name_at names j)) (and_first _ _ e))) in grind (arith, nat_tests))
      (λ e. and_both _ _ (subst (λ k. same_step (to_function (name_at names i)) (to_function (name_at names k)) ≡ true) (sym (nat_same j i e)) (step_itself (to_function (name_at names i)))) refl)

  -- the counts below a way
  pub total_is : (x : Way) → total_of (said names keys counts calls heads) x ≡ capped (sum_by (λ id. cond (leads_to x (way_at names keys id)) (get_or counts id 0) 0) (range_with_len 0 (length keys)))
  total_is x =
      ap capped
      (sum_filter (λ c. c.1) (λ c. leads_to x c.0) (map (λ id. (way_at names keys id, get_or counts id 0)) (range_with_len 0 (length keys)))
      ∙ sum_map (λ c. cond (leads_to x c.0) c.1 0) (λ id. (way_at names keys id, get_or counts id 0)) (range_with_len 0 (length keys)))

  root_share : (i count : ℕ) → i < length names → (o : Option Key) → ((key : Key) → o ≡ Some key → key.root.0 < length names) → cond (leads_to (to_function (name_at names i) ∷ []) (map (named names) (steps_of_given o))) count 0 ≡ share i count o
  root_share i count h None low = refl
  root_share i count h (Some key) low = ap (λ b. cond b count 0) (same_function_is i key.root.0 h (low key refl))

  pub root_is : (i : ℕ) → i < length names → total_of_function (said names keys counts calls heads) (name_at names i) ≡ root_total keys counts i
  root_is i h =
      total_is (to_function (name_at names i) ∷ [])
      ∙ ap capped (sum_same (λ id. cond (leads_to (to_function (name_at names i) ∷ []) (way_at names keys id)) (get_or counts id 0) 0) (λ id. share i (get_or counts id 0) (slice_get keys id)) (range_with_len 0 (length keys))
      (all_among (λ id. cond (leads_to (to_function (name_at names i) ∷ []) (way_at names keys id)) (get_or counts id 0) 0 ≡ share i (get_or counts id 0) (slice_get keys id)) (range_with_len 0 (length keys))
      (λ id there. root_share i (get_or counts id 0) h (slice_get keys id) (λ key e. (all_to_each (HasNames (length names)) key keys g.given.key_names (given_among keys id key e)).0))))

  pub count_is : (k : ℕ) → k < length keys → count_of (said names keys counts calls heads) (way_at names keys k) ≡ get_or counts k 0
  count_is k h =
      sum_filter (λ c. c.1) (λ c. same_way (way_at names keys k) c.0) (map (λ id. (way_at names keys id, get_or counts id 0)) (range_with_len 0 (length keys)))
      ∙ sum_map (λ c. cond (same_way (way_at names keys k) c.0) c.1 0) (λ id. (way_at names keys id, get_or counts id 0)) (range_with_len 0 (length keys))
      ∙ sum_same (λ id. cond (same_way (way_at names keys k) (way_at names keys id)) (get_or counts id 0) 0) (λ id. cond (id == k) (get_or counts id 0) 0) (range_with_len 0 (length keys))
      (all_among (λ id. cond (same_way (way_at names keys k) (way_at names keys id)) (get_or counts id 0) 0 ≡ cond (id == k) (get_or counts id 0) 0) (range_with_len 0 (length keys))
      (λ id there. ap (λ b. cond b (get_or counts id 0) 0) (ways_apart k id h (let b = among_range 0 (length keys) id there in omega (arith, b.1)))))
      ∙ one_of_range (λ id. get_or counts id 0) k 0 (length keys) (omega arith) (omega arith)

  pub head_is : (i : ℕ) → i < length names → head_of (said names keys counts calls heads) (name_at names i) ≡ entries_of heads i
  head_is i h =
      sum_filter (λ x. x.1) (λ x. same_name (name_at names i) x.0) (map (λ head. (name_at names head.name.0, head.times)) heads)
      ∙ sum_map (λ x. cond (same_name (name_at names i) x.0) x.1 0) (λ head. (name_at names head.name.0, head.times)) heads
      ∙ sum_same (λ head. cond (same_name (name_at names i) (name_at names head.name.0)) head.times 0) (λ head. cond (head.name.0 == i) head.times 0) heads
      (all_among (λ head. cond (same_name (name_at names i) (name_at names head.name.0)) head.times 0 ≡ cond (head.name.0 == i) head.times 0) heads
      (λ head there. ap (λ b. cond b head.times 0) (same_name_is i head.name.0 h (all_to_each (λ x. x.name.0 < length names) head heads g.given.entered there))))

  pub target_is : (k i : ℕ) → k < length keys → i < length names → target_of (said names keys counts calls heads) (way_at names keys k) (name_at names i) ≡ calls_of calls k i
  target_is k i h f =
      let told : Call → Way × List ℕ × ℕ = λ call. (way_at names keys call.key.0, name_at names call.callee.0, call.times) in
      sum_filter (λ c. c.2) (λ c. same_way (way_at names keys k) c.0 && same_name (name_at names i) c.1) (map told calls)
      ∙ sum_map (λ c. cond (same_way (way_at names keys k) c.0 && same_name (name_at names i) c.1) c.2 0) told calls
      ∙ sum_same (λ call. cond (same_way (way_at names keys k) (way_at names keys call.key.0) && same_name (name_at names i) (name_at names call.callee.0)) call.times 0) (λ call. cond (call.key.0 == k && call.callee.0 == i) call.times 0) calls
      (all_among (λ call. cond (same_way (way_at names keys k) (way_at names keys call.key.0) && same_name (name_at names i) (name_at names call.callee.0)) call.times 0 ≡ cond (call.key.0 == k && call.callee.0 == i) call.times 0) calls
      (λ call there.
      let known = all_to_each (IsGiven (length keys) (length names)) call calls g.given.called there in
      λ m. cond (ways_apart k call.key.0 h known.0 m && same_name_is i call.callee.0 f known.1 m) call.times 0))

-- what a way has where it stands
abbrev pub part_of_way : (Way → ℕ) → Way → Way → ℕ
part_of_way g w v = cond (same_way w v) (g v) 0

pub no_way_among : (g : Way → ℕ) (w : Way) (ws : List Way) → (Among w ws → ⊥) → sum_by (part_of_way g w) ws ≡ 0
no_way_among g w ws lacks = sum_none (part_of_way g w) ws (all_among (λ v. part_of_way g w v ≡ 0) ws (λ v h. bool_cases (same_way w v)
    (λ e. absurd (lacks (subst (λ (z : Way). Among z ws) (sym (same_ways w v e)) h)))
    (λ e. ap (λ b. cond b (g v) 0) e)))

pub one_way_among : (cmp : Way → Way → Ordering) → TellsApart cmp → (g : Way → ℕ) (w : Way) (ws : List Way) → IsStrictlySortedBy cmp ws → Among w ws → sum_by (part_of_way g w) ws ≡ g w
unfolding IsStrictlySortedBy
one_way_among cmp t g w [] sorted h = absurd h
one_way_among cmp t g w (v ∷ ws) sorted h =
    sum_by-cons (part_of_way g w) v ws
    ∙ elim h as (λ _. part_of_way g w v + sum_by (part_of_way g w) ws ≡ g w) [
      | inl e ↦
          let lacks : Among w ws → ⊥ = not_among_above cmp t w ws (subst (λ (z : Way). Above cmp z ws) (sym e) sorted.0) in
          let here : part_of_way g w v ≡ g w = subst (λ (z : Way). part_of_way g w z ≡ g w) e (ap (λ b. cond b (g w) 0) (way_itself w)) in
          (λ i. here i + no_way_among g w ws lacks i) ∙ add-zero (g w)
      | inr r ↦
          let other : part_of_way g w v ≡ 0 = bool_cases (same_way w v)
          (λ e. absurd (not_among_above cmp t v ws sorted.0 (subst (λ (z : Way). Among z ws) (same_ways w v e) r)))
          (λ e. ap (λ b. cond b (g v) 0) e) in
          (λ i. other i + one_way_among cmp t g w ws sorted.1 r i) ∙ zero-add (g w)
    ]

-- sums by ranks
pub record ByName (names : List (List ℕ)) (nr ni : List ℕ) : Type 0 where
  pub ranks : AreRanks names (replicate (length names) 0) nr ni

module _ (names : List (List ℕ)) (nr ni : List ℕ) (r : ByName names nr ni) where
  pub rank_back : (i : ℕ) → i < length names → get_or ni (get_or nr i 0) 0 ≡ i
  rank_back i h = let size : length {A = ℕ} (replicate (length names) 0) ≡ length names = length-replicate {A = ℕ} (length names) 0 in r.ranks.back i (omega arith)

  pub rank_low : (i : ℕ) → i < length names → get_or nr i 0 < length ni
  rank_low i h = let size : length {A = ℕ} (replicate (length names) 0) ≡ length names = length-replicate {A = ℕ} (length names) 0 in r.ranks.below i (omega arith)

  rank_is : (i j : ℕ) → i < length names → j < length names → (get_or nr j 0 == get_or nr i 0) ≡ (j == i)
  rank_is i j h f =
      bool_same (get_or nr j 0 == get_or nr i 0) (j == i)
      (λ e. let same : j ≡ i = sym (rank_back j f) ∙ ap (λ q. get_or ni q 0) (nat_same _ _ e) ∙ rank_back i h in grind (arith, nat_tests))
      (λ e. let same : j ≡ i = nat_same j i e in ap (λ k. get_or nr k 0 == get_or nr i 0) same ∙ nat_refl (get_or nr i 0))

  either_way : (b : Bool) (n : ℕ) → cond b n n ≡ n
  either_way true n = refl
  either_way false n = refl

  made_only : (b : Bool) (times : ℕ) → cond (nat_lt 0 times) (cond b times 0) 0 ≡ cond b times 0
  made_only true times = bool_cases (nat_lt 0 times) (λ e. ap (λ c. cond c times 0) e) (λ e. let z : times ≡ 0 = grind (arith, nat_tests) in ap (λ c. cond c times 0) e ∙ sym z)
  made_only false times = either_way (nat_lt 0 times) 0

  sum_is_over_calls : (calls : List Call) (key rank : ℕ) → sum_at (map (pair_of nr) (filter was_made calls)) key rank ≡ sum_by (λ call. cond (call.key.0 == key && get_or nr call.callee.0 0 == rank) call.times 0) calls
  sum_is_over_calls calls key rank =
      sum_map (times_at key rank) (pair_of nr) (filter was_made calls)
      ∙ sum_filter (λ call. times_at key rank (pair_of nr call)) was_made calls
      ∙ sum_same (λ call. cond (was_made call) (times_at key rank (pair_of nr call)) 0) (λ call. cond (call.key.0 == key && get_or nr call.callee.0 0 == rank) call.times 0) calls
      (all_among (λ call. cond (was_made call) (times_at key rank (pair_of nr call)) 0 ≡ cond (call.key.0 == key && get_or nr call.callee.0 0 == rank) call.times 0) calls
      (λ call there. made_only (call.key.0 == key && get_or nr call.callee.0 0 == rank) call.times))

  pub sum_by_rank_is : (calls : List Call) (keys k i : ℕ) → All (IsGiven keys (length names)) calls → i < length names → sum_at (map (pair_of nr) (filter was_made calls)) k (get_or nr i 0) ≡ calls_of calls k i
  sum_by_rank_is calls keys k i given h =
      sum_is_over_calls calls k (get_or nr i 0)
      ∙ sum_same (λ call. cond (call.key.0 == k && get_or nr call.callee.0 0 == get_or nr i 0) call.times 0) (λ call. cond (call.key.0 == k && call.callee.0 == i) call.times 0) calls
      (all_among (λ call. cond (call.key.0 == k && get_or nr call.callee.0 0 == get_or nr i 0) call.times 0 ≡ cond (call.key.0 == k && call.callee.0 == i) call.times 0) calls
      (λ call there. ap (λ b. cond (call.key.0 == k && b) call.times 0) (rank_is i call.callee.0 h (all_to_each (IsGiven keys (length names)) call calls given there).1)))

  at_most : (b c : Bool) (times : ℕ) → (b ≡ true → c ≡ true) → cond b times 0 ≤ cond c times 0
  at_most true true times f = omega arith
  at_most true false times f = let e : false ≡ true = f refl in absurd cc
  at_most false true times f = omega arith
  at_most false false times f = omega arith

  pub rank_sums_fit : (calls : List Call) (keys : ℕ) → All (IsGiven keys (length names)) calls → ((key callee : ℕ) → calls_of calls key callee < 2 ^ 64) → (key rank : ℕ) → sum_at (map (pair_of nr) (filter was_made calls)) key rank < 2 ^ 64
  rank_sums_fit calls keys given fit key rank =
      let i = get_or ni rank 0 in
      let most : sum_by (λ call. cond (call.key.0 == key && get_or nr call.callee.0 0 == rank) call.times 0) calls ≤ calls_of calls key i =
      sum_at_most (λ call. cond (call.key.0 == key && get_or nr call.callee.0 0 == rank) call.times 0) (λ call. cond (call.key.0 == key && call.callee.0 == i) call.times 0) calls
      (all_among (λ call. cond (call.key.0 == key && get_or nr call.callee.0 0 == rank) call.times 0 ≤ cond (call.key.0 == key && call.callee.0 == i) call.times 0) calls
      (λ call there.
      let low = (all_to_each (IsGiven keys (length names)) call calls given there).1 in
      at_most (call.key.0 == key && get_or nr call.callee.0 0 == rank) (call.key.0 == key && call.callee.0 == i) call.times
      (λ e.
      let a : (call.key.0 == key) ≡ true = and_first _ _ e in
      let b : get_or nr call.callee.0 0 ≡ rank = nat_same _ _ (and_second _ _ e) in
      let same : call.callee.0 ≡ i = sym (rank_back call.callee.0 low) ∙ ap (λ q. get_or ni q 0) b in
      and_both _ _ a (ap (λ q. q == i) same ∙ nat_refl i)))) in
      omega (arith, most, sum_is_over_calls calls key rank, fit key i)
