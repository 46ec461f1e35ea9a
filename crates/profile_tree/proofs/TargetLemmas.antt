-- The targets of a key are those of the profile.
use Rattle.std.proofs.Common.{◌≡◌, ◌≤◌, ◌<◌, ℕ, ◌==◌, nat_lt, Bool, true, false, cond, ◌&&◌, List, [], ◌∷◌, map, filter, length, get_or, replicate, All, refl, sym, ap, subst, ◌∙◌, arith}
use Rattle.std.proofs.lemmas.Bool.Decides.{nat_tests}
use Rattle.std.proofs.lemmas.Cmp.{nat_cmp_total, tied_itself}
use Rattle.std.proofs.lemmas.List.Kept.{IsStrictlySortedBy-filter}
use Rattle.std.specs.List.{AllByRecursion, list_any}
use Rattle.std.specs.List.Sorted.{IsStrictlySortedBy}
use Rattle.std.specs.declared.cmp.Ordering.TheVariants.{Less, Equal}
use Rattle.std.specs.Ordering.{nat_cmp, ordering_then}
use Rattle.key_types.specs.declared.key.Key.{Key}
use Rattle.profile_lists.specs.Ranks.{AreRanks}
use Rattle.profile_model.proofs.OrderLemmas.{targets_tell_apart}
use Rattle.profile_model.proofs.OrderedLemmas.{only_ordered_is_in_order}
use Rattle.profile_model.specs.Laws.{has}
use Rattle.profile_model.specs.Orders.{name_cmp, target_cmp}
use Rattle.profile_model.specs.Profile.{target_of, targets_of}
use Rattle.profile_model.specs.Ways.{Way, same_way}
use Rattle.profile_tree.proofs.ListLemmas.{and_first, and_second, and_both, bool_same, nat_same, nat_refl, Among, among_map, among_map_back, among_filter, among_filter_back, all_among, all_places, among_has, has_among, any_among, among_any, some_in_sum, part_of_sum}
use Rattle.profile_tree.proofs.SumLemmas.{Given, all_to_each, rank_back, rank_low, sum_by_rank_is, target_is, ways_apart}
use Rattle.profile_tree.proofs.WayLemmas.{Ranked, calls_agree}
use Rattle.profile_tree.specs.Known.{IsGiven}
use Rattle.profile_tree.specs.Rows.{target_of as line_target}
use Rattle.profile_tree.specs.Said.{said, way_at}
use Rattle.profile_tree.specs.Steps.{name_at}
use Rattle.profile_tree.specs.Sums.{calls_of}
use Rattle.profile_tree.specs.Told.{told_target}
use Rattle.profile_tree.specs.declared.head.Head.{Head}
use Rattle.profile_lists.specs.Lists.{AreTargets, target_cmp as rank_cmp, tells}
use Rattle.profile_lists.specs.Pairs.{is_at, pair_of, sum_at, times_at, was_made}
use Rattle.profile_lists.specs.declared.lists.Target.{Target}
use Rattle.profile_lists.specs.declared.pairs.Call.{Call}

-- a call that a target tells of
pub record IsCallOf (nr : List ℕ) (calls : List Call) (key rank times : ℕ) (call : Call) : Type 0 where
  pub there : Among call calls
  pub made : 0 < call.times
  pub key_is : call.key.0 ≡ key
  pub rank_is : get_or nr call.callee.0 0 ≡ rank
  pub times_is : sum_at (map (pair_of nr) (filter was_made calls)) key rank ≡ times

some_is_true : (b : Bool) (n : ℕ) → 0 < cond b n 0 → b ≡ true
some_is_true true n h = refl
some_is_true false n h = absurd (omega arith)

more_than_none : (n : ℕ) → nat_lt 0 n ≡ true → 0 < n
more_than_none n e = grind (arith, nat_tests)

none_is_less : (n : ℕ) → 0 < n → nat_lt 0 n ≡ true
none_is_less n h = grind (arith, nat_tests)

-- the ranks of targets are those of names
module _ (names : List (List ℕ)) (keys : List Key) (calls : List Call) (heads : List Head) (nr ni : List ℕ) (g : Given names keys calls heads) (by_name : AreRanks names (replicate (length names) 0) nr ni) (targets : List Target) (is : AreTargets nr calls targets) where
  pub target_call : (t : Target) → Among t targets → (call : Call) × IsCallOf nr calls t.key t.rank t.times.0 call
  target_call t h =
      let itself : tells t.key t.rank t.times.0 t ≡ true = and_both _ _ (nat_refl t.key) (and_both _ _ (nat_refl t.rank) (nat_refl t.times.0)) in
      let pairs = map (pair_of nr) (filter was_made calls) in
      let found : (nat_lt 0 t.times.0 && sum_at pairs t.key t.rank == t.times.0) ≡ true = sym (is.told t.key t.rank t.times.0) ∙ among_any (tells t.key t.rank t.times.0) t targets h itself in
      let some : 0 < t.times.0 = more_than_none t.times.0 (and_first _ _ found) in
      let sum : sum_at pairs t.key t.rank ≡ t.times.0 = nat_same _ _ (and_second (nat_lt 0 t.times.0) (sum_at pairs t.key t.rank == t.times.0) found) in
      let pair = some_in_sum (times_at t.key t.rank) pairs (omega (arith, some, sum)) in
      let call = among_map_back (pair_of nr) pair.0 (filter was_made calls) pair.1 in
      let made = among_filter_back was_made call.0 calls call.1 in
      let at : is_at t.key t.rank (pair_of nr call.0) ≡ true = ap (is_at t.key t.rank) (sym call.2) ∙ some_is_true (is_at t.key t.rank pair.0) pair.0.times pair.2 in (
        call.0,
        record {
          there = made.1;
          made = more_than_none call.0.times made.0;
          key_is = nat_same _ _ (and_first (call.0.key.0 == t.key) (get_or nr call.0.callee.0 0 == t.rank) at);
          rank_is = nat_same _ _ (and_second (call.0.key.0 == t.key) (get_or nr call.0.callee.0 0 == t.rank) at);
          times_is = sum;
        },
      )

  pub call_known : (call : Call) → Among call calls → IsGiven (length keys) (length names) call
  call_known call h = all_to_each (IsGiven (length keys) (length names)) call calls g.given.called h

  pub all_ranks_low : All (λ t. t.rank < length ni) targets
  all_ranks_low = all_places (λ t. t.rank < length ni) targets (all_among (λ t. t.rank < length ni) targets (λ t h.
      let c = target_call t h in subst (λ n. n < length ni) c.1.rank_is (rank_low names nr ni (record { ranks = by_name }) c.0.callee.0 (call_known c.0 c.1.there).1)))

module _ (names : List (List ℕ)) (keys : List Key) (counts : List ℕ) (calls : List Call) (heads : List Head) (total : List ℕ → ℕ) (totals tr ti nr ni : List ℕ)
    (g : Given names keys calls heads) (r : Ranked names total totals tr ti nr ni) (targets : List Target) (is : AreTargets nr calls targets) where
  call_of : (t : Target) → Among t targets → (call : Call) × IsCallOf nr calls t.key t.rank t.times.0 call
  call_of = target_call names keys calls heads nr ni g r.by_name targets is

  known : (call : Call) → Among call calls → IsGiven (length keys) (length names) call
  known = call_known names keys calls heads nr ni g r.by_name targets is

  pub tell : Target → List ℕ × ℕ
  tell t = (name_at names (get_or ni t.rank 0), t.times.0)

  -- order
  record IsHere (k : ℕ) (t : Target) : Type 0 where
    key : t.key ≡ k
    name : ℕ
    given : name < length names
    rank : t.rank ≡ get_or nr name 0

  here_among : (k : ℕ) (t : Target) → Among t (filter (λ x. x.key == k) targets) → IsHere k t
  here_among k t h =
      let f = among_filter_back (λ x. x.key == k) t targets h in
      let c = call_of t f.1 in
      record { key = nat_same t.key k f.0; name = c.0.callee.0; given = (known c.0 c.1.there).1; rank = sym c.1.rank_is }

  name_of_rank : (k : ℕ) (t : Target) (h : IsHere k t) → name_at names (get_or ni t.rank 0) ≡ name_at names h.name
  name_of_rank k t h = ap (name_at names) (ap (λ q. get_or ni q 0) h.rank ∙ rank_back names nr ni (record { ranks = r.by_name }) h.name h.given)

  targets_agree : (k : ℕ) (s t : Target) → IsHere k s → IsHere k t → rank_cmp s t ≡ target_cmp (tell s) (tell t)
  unfolding tell
  targets_agree k s t h f =
      let same : nat_cmp s.key t.key ≡ Equal = (λ m. nat_cmp (h.key m) (f.key m)) ∙ tied_itself nat_cmp_total k in
      let ranks : nat_cmp s.rank t.rank ≡ name_cmp (name_at names (get_or ni s.rank 0)) (name_at names (get_or ni t.rank 0)) =
      (λ m. nat_cmp (h.rank m) (f.rank m)) ∙ calls_agree names total totals tr ti nr ni r h.name f.name h.given f.given
      ∙ (λ m. name_cmp (sym (name_of_rank k s h) m) (sym (name_of_rank k t f) m)) in
      λ m. ordering_then (same m) (ordering_then (nat_cmp t.times.0 s.times.0) (ranks m))

  above_told : (k : ℕ) (s : Target) (xs : List Target) → IsHere k s → AllByRecursion (IsHere k) xs → AllByRecursion (λ t. rank_cmp s t ≡ Less) xs → AllByRecursion (λ z. target_cmp (tell s) z ≡ Less) (map tell xs)
  above_told k s [] h all above = tt
  above_told k s (t ∷ xs) h all above = (sym (targets_agree k s t h all.0) ∙ above.0, above_told k s xs h all.1 above.1)

  told_ascend : (k : ℕ) (xs : List Target) → AllByRecursion (IsHere k) xs → IsStrictlySortedBy rank_cmp xs → IsStrictlySortedBy target_cmp (map tell xs)
  unfolding IsStrictlySortedBy
  told_ascend k [] all sorted = tt
  told_ascend k (t ∷ xs) all sorted = (above_told k t xs all.0 all.1 sorted.0, told_ascend k xs all.1 sorted.1)

  -- what stands in both
  call_told : Call → Way × List ℕ × ℕ
  call_told call = (way_at names keys call.key.0, name_at names call.callee.0, call.times)

  goal_target : ℕ → Way × List ℕ × ℕ → List ℕ × ℕ
  goal_target k c = (c.1, target_of (said names keys counts calls heads) (way_at names keys k) c.1)

  is_from : ℕ → Way × List ℕ × ℕ → Bool
  is_from k c = same_way (way_at names keys k) c.0 && nat_lt 0 c.2

  goals : ℕ → List (List ℕ × ℕ)
  goals k = map (goal_target k) (filter (is_from k) (map call_told calls))

  sums_are : (k i : ℕ) → k < length keys → i < length names → target_of (said names keys counts calls heads) (way_at names keys k) (name_at names i) ≡ sum_at (map (pair_of nr) (filter was_made calls)) k (get_or nr i 0)
  sums_are k i h f = target_is names keys counts calls heads g k i h f ∙ sym (sum_by_rank_is names nr ni (record { ranks = r.by_name }) calls (length keys) k i g.given.called f)

  there : (k : ℕ) (z : List ℕ × ℕ) → k < length keys → Among z (map tell (filter (λ t. t.key == k) targets)) → Among z (goals k)
  unfolding tell call_told goal_target is_from goals
  there k z low h =
      let t = among_map_back tell z (filter (λ x. x.key == k) targets) h in
      let f = among_filter_back (λ x. x.key == k) t.0 targets t.1 in
      let key : t.0.key ≡ k = nat_same t.0.key k f.0 in
      let c = call_of t.0 f.1 in
      let i = c.0.callee.0 in
      let given = known c.0 c.1.there in
      let from : is_from k (call_told c.0) ≡ true = and_both (same_way (way_at names keys k) (way_at names keys c.0.key.0)) (nat_lt 0 c.0.times) (ways_apart names keys counts calls heads g k c.0.key.0 low given.0 ∙ ap (λ n. n == k) (c.1.key_is ∙ key) ∙ nat_refl k) (none_is_less c.0.times c.1.made) in
      let mine : Among (goal_target k (call_told c.0)) (goals k) =
      among_map (goal_target k) (call_told c.0) (filter (is_from k) (map call_told calls)) (among_filter (is_from k) (call_told c.0) (map call_told calls) from (among_map call_told c.0 calls c.1.there)) in
      let name : name_at names (get_or ni t.0.rank 0) ≡ name_at names i = ap (name_at names) (ap (λ q. get_or ni q 0) (sym c.1.rank_is) ∙ rank_back names nr ni (record { ranks = r.by_name }) i given.1) in
      let times : t.0.times.0 ≡ target_of (said names keys counts calls heads) (way_at names keys k) (name_at names i) =
      sym c.1.times_is ∙ (λ m. sum_at (map (pair_of nr) (filter was_made calls)) (key m) (sym c.1.rank_is m)) ∙ sym (sums_are k i low given.1) in
      subst (λ y. Among y (goals k)) (sym (t.2 ∙ (λ m. (name m, times m)))) mine

  back : (k : ℕ) (z : List ℕ × ℕ) → k < length keys → Among z (goals k) → Among z (map tell (filter (λ t. t.key == k) targets))
  unfolding tell call_told goal_target is_from goals
  back k z low h =
      let e = among_map_back (goal_target k) z (filter (is_from k) (map call_told calls)) h in
      let f = among_filter_back (is_from k) e.0 (map call_told calls) e.1 in
      let c = among_map_back call_told e.0 calls f.1 in
      let i = c.0.callee.0 in
      let given = known c.0 c.1 in
      let from : is_from k (call_told c.0) ≡ true = ap (is_from k) (sym c.2) ∙ f.0 in
      let key : c.0.key.0 ≡ k = nat_same c.0.key.0 k (sym (ways_apart names keys counts calls heads g k c.0.key.0 low given.0) ∙ and_first (same_way (way_at names keys k) (way_at names keys c.0.key.0)) (nat_lt 0 c.0.times) from) in
      let made : 0 < c.0.times = more_than_none c.0.times (and_second (same_way (way_at names keys k) (way_at names keys c.0.key.0)) (nat_lt 0 c.0.times) from) in
      let S = sum_at (map (pair_of nr) (filter was_made calls)) k (get_or nr i 0) in
      let all : S ≡ calls_of calls k i = sum_by_rank_is names nr ni (record { ranks = r.by_name }) calls (length keys) k i g.given.called given.1 in
      let test : (c.0.key.0 == k && c.0.callee.0 == i) ≡ true = and_both (c.0.key.0 == k) (i == i) (ap (λ n. n == k) key ∙ nat_refl k) (nat_refl i) in
      let part : cond (c.0.key.0 == k && c.0.callee.0 == i) c.0.times 0 ≤ calls_of calls k i = part_of_sum (λ call. cond (call.key.0 == k && call.callee.0 == i) call.times 0) c.0 calls c.1 in
      let mine : cond (c.0.key.0 == k && c.0.callee.0 == i) c.0.times 0 ≡ c.0.times = ap (λ b. cond b c.0.times 0) test in
      let some : 0 < S = omega (arith, all, part, mine, made) in
      let found : list_any (tells k (get_or nr i 0) S) targets ≡ true = is.told k (get_or nr i 0) S ∙ and_both (nat_lt 0 S) (S == S) (none_is_less S some) (nat_refl S) in
      let t = any_among (tells k (get_or nr i 0) S) targets found in
      let rest : (t.0.rank == get_or nr i 0 && t.0.times.0 == S) ≡ true = and_second (t.0.key == k) (t.0.rank == get_or nr i 0 && t.0.times.0 == S) t.2 in
      let rank : t.0.rank ≡ get_or nr i 0 = nat_same t.0.rank (get_or nr i 0) (and_first (t.0.rank == get_or nr i 0) (t.0.times.0 == S) rest) in
      let times : t.0.times.0 ≡ S = nat_same t.0.times.0 S (and_second (t.0.rank == get_or nr i 0) (t.0.times.0 == S) rest) in
      let here : Among (tell t.0) (map tell (filter (λ x. x.key == k) targets)) = among_map tell t.0 (filter (λ x. x.key == k) targets) (among_filter (λ x. x.key == k) t.0 targets (and_first (t.0.key == k) (t.0.rank == get_or nr i 0 && t.0.times.0 == S) t.2) t.1) in
      let name : name_at names (get_or ni t.0.rank 0) ≡ name_at names i = ap (name_at names) (ap (λ q. get_or ni q 0) rank ∙ rank_back names nr ni (record { ranks = r.by_name }) i given.1) in
      let value : t.0.times.0 ≡ target_of (said names keys counts calls heads) (way_at names keys k) (name_at names i) = times ∙ sym (sums_are k i low given.1) in
      let is_z : z ≡ goal_target k (call_told c.0) = e.2 ∙ ap (goal_target k) c.2 in
      subst (λ y. Among y (map tell (filter (λ x. x.key == k) targets))) ((λ m. (name m, value m)) ∙ sym is_z) here

  pub targets_are : (k : ℕ) → k < length keys → map (told_target names) (map (line_target ni) (filter (λ t. t.key == k) targets)) ≡ targets_of (said names keys counts calls heads) (way_at names keys k)
  unfolding tell call_told goal_target is_from goals
  targets_are k low =
      let mine = filter (λ t. t.key == k) targets in
      map_twice mine
      ∙ only_ordered_is_in_order target_cmp targets_tell_apart (goals k) (map tell mine) (record {
        ascending = told_ascend k mine (all_among (IsHere k) mine (here_among k)) (IsStrictlySortedBy-filter rank_cmp (λ t. t.key == k) targets is.ascending);
        same = λ z. bool_same (has target_cmp z (map tell mine)) (has target_cmp z (goals k))
            (λ e. among_has target_cmp targets_tell_apart z (goals k) (there k z low (has_among target_cmp targets_tell_apart z (map tell mine) e)))
            (λ e. among_has target_cmp targets_tell_apart z (map tell mine) (back k z low (has_among target_cmp targets_tell_apart z (goals k) e)));
      })
    where
      map_twice : (xs : List Target) → map (told_target names) (map (line_target ni) xs) ≡ map (λ t. (name_at names (get_or ni t.rank 0), t.times.0)) xs
      map_twice [] = refl
      map_twice (t ∷ xs) = ap (λ ys. (name_at names (get_or ni t.rank 0), t.times.0) ∷ ys) (map_twice xs)
