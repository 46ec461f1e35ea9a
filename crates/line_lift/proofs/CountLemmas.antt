-- Numbers in which the keys that are held have their counts say what the lifted profile says.
use Rattle.std.proofs.Common.{◌≡◌, ℕ, ◌+◌, ◌<◌, ◌==◌, nat_lt, Bool, true, false, cond, not, List, [], ◌++◌, map, filter, take, length, get_or, set, sum_by, Option, None, Some, refl, sym, ap, subst, ◌∙◌, arith, add-zero, zero-add}
use Rattle.std.specs.List.{range_with_len}
use Rattle.std.specs.Option.{unwrap_or}
use Rattle.std.specs.declared.cmp.Ordering.{Ordering}
use Rattle.std.proofs.lemmas.Bool.{true≢false}
use Rattle.std.proofs.lemmas.Bool.Decides.{nat_tests}
use Rattle.std.proofs.lemmas.List.{get_or-set_other, get_or-set_same, get_or-take, get_or_default, get_or_past, length-set, length-take-le}
use Rattle.std.proofs.lemmas.List.Elements.{filter-append}
use Rattle.std.proofs.lemmas.List.Sums.{sum_by-append}
use Rattle.key_types.specs.declared.key.Key.{Key}
use Rattle.output_model.specs.Lift.{held_count, held_ways, is_held, lifted}
use Rattle.profile_laws.specs.Counts.{CountTheSame}
use Rattle.profile_model.specs.Laws.{TellsApart}
use Rattle.profile_model.specs.Orders.{way_cmp}
use Rattle.profile_model.specs.Profile.{Profile, count_of, head_of, target_of}
use Rattle.profile_model.specs.Ways.{Way, same_way}
use Rattle.profile_model.proofs.OrderLemmas.{ways_tell_apart}
use Rattle.profile_model.proofs.OrderedLemmas.{ordered_is_in_order}
use Rattle.profile_tree.proofs.ListLemmas.{among_has, bool_cases, has_among, nat_same, sum_filter, sum_map, sum_none, sum_same}
use Rattle.profile_tree.proofs.SumLemmas.{Given, count_is, no_way_among, one_way_among, part_of_way}
use Rattle.profile_tree.proofs.WayLemmas.{same_ways}
use Rattle.profile_tree.specs.Numbers.{Numbers, numbers_said}
use Rattle.profile_tree.specs.Said.{way_at}
use Rattle.line_lift.specs.Largest.{IsLargest}
use Rattle.line_lift.specs.Stated.{AreWithHeld}
use Rattle.line_lift.proofs.AmongLemmas.{Among, all_among, among_map, among_map_back, among_range}
use Rattle.line_lift.proofs.HeldLemmas.{AreHeld, held_as, held_with, with_held}

-- ---- sums over counts

abbrev counted_for : Way → List (Way × ℕ) → ℕ
counted_for w counts = sum_by (λ c. c.1) (filter (λ c. same_way w c.0) counts)

counted_append : (w : Way) (xs ys : List (Way × ℕ)) → counted_for w (xs ++ ys) ≡ counted_for w xs + counted_for w ys
counted_append w xs ys = ap (sum_by (λ c. c.1)) (filter-append (λ c. same_way w c.0) xs ys) ∙ sum_by-append (λ c. c.1) (filter (λ c. same_way w c.0) xs) (filter (λ c. same_way w c.0) ys)

-- the counts of one way, of those that pass a test
counted_passing : (w : Way) (test : Way → Bool) (xs : List (Way × ℕ)) → counted_for w (filter (λ c. test c.0) xs) ≡ sum_by (λ c. cond (test c.0) (cond (same_way w c.0) c.1 0) 0) xs
counted_passing w test xs =
    sum_filter (λ c. c.1) (λ c. same_way w c.0) (filter (λ c. test c.0) xs)
    ∙ sum_filter (λ c. cond (same_way w c.0) c.1 0) (λ c. test c.0) xs

none_passing : (w : Way) (test : Way → Bool) (xs : List (Way × ℕ)) → test w ≡ false → counted_for w (filter (λ c. test c.0) xs) ≡ 0
none_passing w test xs fails =
    counted_passing w test xs
    ∙ sum_none (λ c. cond (test c.0) (cond (same_way w c.0) c.1 0) 0) xs (all_among (λ c. cond (test c.0) (cond (same_way w c.0) c.1 0) 0 ≡ 0) xs (λ c h. by c (same_way w c.0) (test c.0) (λ e. sym (ap test (same_ways w c.0 e)) ∙ fails)))
  where
    by : (c : Way × ℕ) (s t : Bool) → (s ≡ true → t ≡ false) → cond t (cond s c.1 0) 0 ≡ 0
    by c true true lacks = absurd (true≢false (lacks refl))
    by c true false lacks = refl
    by c false true lacks = refl
    by c false false lacks = refl

all_passing : (w : Way) (test : Way → Bool) (xs : List (Way × ℕ)) → test w ≡ true → counted_for w (filter (λ c. test c.0) xs) ≡ counted_for w xs
all_passing w test xs passes =
    counted_passing w test xs
    ∙ sum_same (λ c. cond (test c.0) (cond (same_way w c.0) c.1 0) 0) (λ c. cond (same_way w c.0) c.1 0) xs
    (all_among (λ c. cond (test c.0) (cond (same_way w c.0) c.1 0) 0 ≡ cond (same_way w c.0) c.1 0) xs (λ c h. by c (same_way w c.0) (test c.0) (λ e. sym (ap test (same_ways w c.0 e)) ∙ passes)))
    ∙ sym (sum_filter (λ c. c.1) (λ c. same_way w c.0) xs)
  where
    by : (c : Way × ℕ) (s t : Bool) → (s ≡ true → t ≡ true) → cond t (cond s c.1 0) 0 ≡ cond s c.1 0
    by c true true holds = refl
    by c true false holds = absurd (true≢false (sym (holds refl)))
    by c false true holds = refl
    by c false false holds = refl

module _ (names : List (List ℕ)) (keys : List Key) (numbered : Given names keys [] []) (pairs : List (Way × ℕ)) (held : List (Option ℕ)) (are : AreHeld names keys pairs held)
    (old new : Numbers) (with_counts : AreWithHeld held old new) where
  abbrev cmp : Way → Way → Ordering
  cmp = way_cmp (λ name. 0)

  abbrev ways : List Way
  ways = map (λ it. it.0) pairs

  apart : TellsApart cmp
  apart = ways_tell_apart (λ name. 0)

  -- a way is among those that are held where it is held
  among_held : (w : Way) → is_held pairs w ≡ true → Among w (held_ways pairs)
  among_held w e =
      let found = held_with pairs w e in
      has_among cmp apart w (held_ways pairs)
      ((ordered_is_in_order cmp apart ways).same w ∙ among_has cmp apart w ways (among_map (λ (it : Way × ℕ). it.0) (w, found.0) pairs found.1))

  held_among : (w : Way) → Among w (held_ways pairs) → is_held pairs w ≡ true
  held_among w h =
      let pair = among_map_back (λ (it : Way × ℕ). it.0) w pairs (has_among cmp apart w ways (sym ((ordered_is_in_order cmp apart ways).same w) ∙ among_has cmp apart w (held_ways pairs) h)) in
      with_held pairs w pair.0.1 (subst (λ v. Among (v, pair.0.1) pairs) (sym pair.2) pair.1)

  told_sum : (w : Way) → counted_for w (map (λ way. (way, held_count pairs way)) (held_ways pairs)) ≡ sum_by (part_of_way (held_count pairs) w) (held_ways pairs)
  told_sum w =
      sum_filter (λ c. c.1) (λ c. same_way w c.0) (map (λ way. (way, held_count pairs way)) (held_ways pairs))
      ∙ sum_map (λ c. cond (same_way w c.0) c.1 0) (λ way. (way, held_count pairs way)) (held_ways pairs)

  -- ---- a way that is held

  held_here : (w : Way) → is_held pairs w ≡ true → count_of (numbers_said names keys new) w ≡ held_count pairs w
  held_here w e =
      let found = held_with pairs w e in
      let key = are.known w found.0 found.1 in
      subst (λ v. count_of (numbers_said names keys new) v ≡ held_count pairs v) key.2
      (count_is names keys new.counts [] [] numbered key.0 key.1 ∙ with_counts.each key.0
      ∙ by key.0 (get_or held key.0 None) (are.each key.0 key.1) found.0 (subst (λ v. Among (v, found.0) pairs) (sym key.2) found.1))
    where
      by : (id : ℕ) (o : Option ℕ) → IsLargest (λ n. Among (way_at names keys id, n) pairs) o → (n : ℕ) → Among (way_at names keys id, n) pairs → unwrap_or o (get_or old.counts id 0) ≡ held_count pairs (way_at names keys id)
      by id None is n h = absurd (is n h)
      by id (Some m) is n h = sym (held_as pairs (way_at names keys id) (Some m) is).most

  held_told : (w : Way) (xs : List (Way × ℕ)) → is_held pairs w ≡ true → counted_for w (map (λ way. (way, held_count pairs way)) (held_ways pairs) ++ filter (λ it. not (is_held pairs it.0)) xs) ≡ held_count pairs w
  held_told w xs e =
      counted_append w (map (λ way. (way, held_count pairs way)) (held_ways pairs)) (filter (λ it. not (is_held pairs it.0)) xs)
      ∙ (λ i. (told_sum w ∙ one_way_among cmp apart (held_count pairs) w (held_ways pairs) (ordered_is_in_order cmp apart ways).ascending (among_held w e)) i
      + none_passing w (λ v. not (is_held pairs v)) xs (ap not e) i)
      ∙ add-zero (held_count pairs w)

  -- ---- one that is not

  other_here : (w : Way) → is_held pairs w ≡ false → count_of (numbers_said names keys new) w ≡ count_of (numbers_said names keys old) w
  other_here w e =
      summed new.counts
      ∙ sum_same (λ id. cond (same_way w (way_at names keys id)) (get_or new.counts id 0) 0) (λ id. cond (same_way w (way_at names keys id)) (get_or old.counts id 0) 0) (range_with_len 0 (length keys))
      (all_among (λ id. cond (same_way w (way_at names keys id)) (get_or new.counts id 0) 0 ≡ cond (same_way w (way_at names keys id)) (get_or old.counts id 0) 0) (range_with_len 0 (length keys))
      (λ id h. let bound = among_range 0 (length keys) id h in bool_cases (same_way w (way_at names keys id))
      (λ same. ap (λ n. cond (same_way w (way_at names keys id)) n 0)
      (with_counts.each id ∙ by id (get_or held id None) (are.each id (omega (arith, bound.1))) (ap (is_held pairs) (sym (same_ways w (way_at names keys id) same)) ∙ e)))
      (λ other. ap (λ b. cond b (get_or new.counts id 0) 0) other ∙ sym (ap (λ b. cond b (get_or old.counts id 0) 0) other))))
      ∙ sym (summed old.counts)
    where
      summed : (counts : List ℕ) → count_of (numbers_said names keys (record { counts = counts; calls = []; heads = [] })) w ≡ sum_by (λ id. cond (same_way w (way_at names keys id)) (get_or counts id 0) 0) (range_with_len 0 (length keys))
      summed counts =
          sum_filter (λ c. c.1) (λ c. same_way w c.0) (map (λ id. (way_at names keys id, get_or counts id 0)) (range_with_len 0 (length keys)))
          ∙ sum_map (λ c. cond (same_way w c.0) c.1 0) (λ id. (way_at names keys id, get_or counts id 0)) (range_with_len 0 (length keys))

      by : (id : ℕ) (o : Option ℕ) → IsLargest (λ n. Among (way_at names keys id, n) pairs) o → is_held pairs (way_at names keys id) ≡ false → unwrap_or o (get_or old.counts id 0) ≡ get_or old.counts id 0
      by id None is lacks = refl
      by id (Some m) is lacks = absurd (true≢false (sym (with_held pairs (way_at names keys id) m is.attained) ∙ lacks))

  other_told : (w : Way) (xs : List (Way × ℕ)) → is_held pairs w ≡ false → counted_for w (map (λ way. (way, held_count pairs way)) (held_ways pairs) ++ filter (λ it. not (is_held pairs it.0)) xs) ≡ counted_for w xs
  other_told w xs e =
      counted_append w (map (λ way. (way, held_count pairs way)) (held_ways pairs)) (filter (λ it. not (is_held pairs it.0)) xs)
      ∙ (λ i. (told_sum w ∙ no_way_among (held_count pairs) w (held_ways pairs) (λ h. true≢false (sym (held_among w h) ∙ e))) i
      + all_passing w (λ v. not (is_held pairs v)) xs (ap not e) i)
      ∙ zero-add (counted_for w xs)

  -- So they count what is lifted of a profile that counts what they did before.
  pub held_alike : (p : Profile) → CountTheSame (numbers_said names keys old) p → CountTheSame (numbers_said names keys new) (lifted pairs p)
  held_alike p same = record {
    keys = λ w. bool_cases (is_held pairs w)
        (λ e. held_here w e ∙ sym (held_told w p.counts e))
        (λ e. other_here w e ∙ same.keys w ∙ sym (other_told w p.counts e));
    targets = λ w name. (λ i. target_of (numbers_said names keys (record { counts = []; calls = with_counts.calls i; heads = [] })) w name) ∙ same.targets w name;
    heads = λ name. (λ i. head_of (numbers_said names keys (record { counts = []; calls = []; heads = with_counts.heads i })) name) ∙ same.heads name;
  }

-- ---- loops

-- one key more
pub held_one : (held : List (Option ℕ)) (n count : ℕ) (d : Option ℕ) (start old new : Numbers) → n < length held → length held ≡ length start.counts
    → count ≡ unwrap_or (get_or held n d) (get_or old.counts n 0) → new.counts ≡ set old.counts n count → new.calls ≡ old.calls → new.heads ≡ old.heads
    → AreWithHeld (take n held) start old → AreWithHeld (take (n + 1) held) start new
held_one held n count d start old new low len is counts calls heads far = record {
  calls = calls ∙ far.calls;
  heads = heads ∙ far.heads;
  len = ap length counts ∙ length-set old.counts n count ∙ far.len;
  each = λ id. ap (λ xs. get_or xs id 0) counts ∙ bool_cases (id == n) (here id) (other id);
}
  where
    taken : length (take n held) ≡ n
    taken = length-take-le n held (omega (arith, low))

    one_taken : length (take (n + 1) held) ≡ n + 1
    one_taken = length-take-le (n + 1) held (omega (arith, low))

    at_n : get_or (set old.counts n count) n 0 ≡ unwrap_or (get_or (take (n + 1) held) n None) (get_or start.counts n 0)
    at_n =
        get_or-set_same old.counts n count 0 (omega (arith, low, len, far.len)) ∙ is
        ∙ (λ i. unwrap_or ((get_or_default held n d None low ∙ sym (get_or-take (n + 1) held n None (omega arith))) i)
        ((far.each n ∙ ap (λ o. unwrap_or o (get_or start.counts n 0)) (get_or_past (take n held) n None (omega (arith, taken)))) i))

    here : (id : ℕ) → (id == n) ≡ true → get_or (set old.counts n count) id 0 ≡ unwrap_or (get_or (take (n + 1) held) id None) (get_or start.counts id 0)
    here id e = subst (λ k. get_or (set old.counts n count) k 0 ≡ unwrap_or (get_or (take (n + 1) held) k None) (get_or start.counts k 0)) (sym (nat_same id n e)) at_n

    as_before : (id : ℕ) → (id == n) ≡ false → get_or (take n held) id None ≡ get_or (take (n + 1) held) id None
    as_before id e = bool_cases (nat_lt id n)
        (λ below. let less : id < n = grind (arith, nat_tests) in get_or-take n held id None less ∙ sym (get_or-take (n + 1) held id None (omega (arith, less))))
        (λ above. let more : n < id = grind (arith, nat_tests) in get_or_past (take n held) id None (omega (arith, taken, more)) ∙ sym (get_or_past (take (n + 1) held) id None (omega (arith, one_taken, more))))

    other : (id : ℕ) → (id == n) ≡ false → get_or (set old.counts n count) id 0 ≡ unwrap_or (get_or (take (n + 1) held) id None) (get_or start.counts id 0)
    other id e =
        get_or-set_other old.counts n id count 0 (grind (arith, nat_tests)) ∙ far.each id
        ∙ ap (λ o. unwrap_or o (get_or start.counts id 0)) (as_before id e)
