-- The functions that stand in a profile, by numbers and by ways.
use Rattle.std.proofs.Common.{◌≡◌, ◌⊎◌, ℕ, ◌+◌, ◌<◌, ◌≤◌, ◌==◌, nat_lt, Bool, true, false, cond, ◌&&◌, ◌||◌, List, [], ◌∷◌, ◌++◌, map, filter, length, get_or, set, replicate, Some, inl, inr, All, refl, sym, ap, subst, ◌∙◌, arith}
use Rattle.std.proofs.lemmas.Bool.Decides.{nat_tests}
use Rattle.std.proofs.lemmas.List.{length-replicate, length-set, get_or-replicate, get_or-set_same, get_or-set_other, map-append, append-nil}
use Rattle.std.proofs.lemmas.List.Folds.{list_any-append}
use Rattle.std.specs.List.{AllByRecursion, list_any, range_with_len, slice_get}
use mathlib.Core.Bool.{or-false, or-true}
use Rattle.key_types.specs.Numbers.{IsNumbered}
use Rattle.key_types.specs.declared.ids.KeyId.{KeyId}
use Rattle.key_types.specs.declared.key.Key.{Key}
use Rattle.cold_model.specs.Cold.{lines_with, same_function, standing_lines_of, stands_in}
use Rattle.profile_lists.specs.Pairs.{was_made}
use Rattle.profile_lists.specs.declared.pairs.Call.{Call}
use Rattle.cold_model.proofs.ColdLemmas.{lines_with_are_by_counts}
use Rattle.profile_laws.proofs.CountLemmas.{Inside, append_inside, back, entered_inside, recorded_inside}
use Rattle.profile_laws.specs.Counts.{CountTheSame}
use Rattle.profile_model.specs.Profile.{Profile, entered, recorded}
use Rattle.profile_model.specs.Ways.{Way, same_step, to_function}
use Rattle.profile_laws.proofs.TotalLemmas.{filter_same}
use Rattle.profile_tree.proofs.Filled.{from_none}
use Rattle.profile_tree.proofs.ListLemmas.{Among, all_among, all_places, among_any, among_filter_back, among_map, among_range, any_among, any_map, bool_same, filter_map as kept_map, map_map, nat_same}
use Rattle.profile_tree.proofs.SumLemmas.{all_to_each, given_among, key_there}
use Rattle.profile_tree.proofs.WayLemmas.{names_once, same_steps, step_itself}
use Rattle.profile_tree.specs.Items.{AreMarked, has_count, was_entered}
use Rattle.profile_tree.specs.Known.{HasNames, IsGiven}
use Rattle.profile_tree.specs.Said.{said, way_at, ways_said}
use Rattle.profile_tree.specs.Stated.{AreGiven}
use Rattle.profile_tree.specs.Standing.{counted_below, first_ways, has_mark, is_called_from, is_counted, is_entered, root_at, root_of_given, standing_ids, stands}
use Rattle.profile_tree.specs.Steps.{name_at, named, steps_of, steps_of_given}
use Rattle.profile_tree.specs.declared.head.Head.{Head}
use Rattle.profile_tree.proofs.ItemLemmas.{filtered_more}

-- ---- marks

same_or_not : (m n : ℕ) → (m == n ≡ true) ⊎ (m == n ≡ false)
same_or_not m n = by (m == n)
  where
    by : (b : Bool) → (b ≡ true) ⊎ (b ≡ false)
    by true = inl refl
    by false = inr refl

none_counted : (keys : List Key) (counts : List ℕ) (n : ℕ) → AreMarked n (counted_below keys counts 0) (replicate n false)
none_counted keys counts n = record { len = length-replicate n false; each = λ id h. get_or-replicate n id false false h }

counted_more : (keys : List Key) (counts : List ℕ) (i name : ℕ)
    → counted_below keys counts (i + 1) name ≡ (counted_below keys counts i name || (has_count counts i && (name == root_at keys i)))
counted_more keys counts i name =
    ap (list_any (λ id. has_count counts id && (name == root_at keys id))) (from_none i)
    ∙ list_any-append (λ id. has_count counts id && (name == root_at keys id)) (range_with_len 0 i) (i ∷ [])
    ∙ ap (λ b. counted_below keys counts i name || b) (or_false (has_count counts i && (name == root_at keys i)))
  where
    or_false : (b : Bool) → (b || false) ≡ b
    or_false true = refl
    or_false false = refl

-- one key with a count more
pub counted_one : (n i root : ℕ) (keys : List Key) (counts : List ℕ) (marks : List Bool) → root_at keys i ≡ root → root < n → has_count counts i ≡ true
    → AreMarked n (counted_below keys counts i) marks → AreMarked n (counted_below keys counts (i + 1)) (set marks root true)
counted_one n i root keys counts marks is low some far = record {
  len = length-set marks root true ∙ far.len;
  each = λ name h.
      let within : root < length marks = omega (arith, far.len) in
      elim (same_or_not name root) as (λ _. get_or (set marks root true) name false ≡ counted_below keys counts (i + 1) name) [
        | inl e ↦
            ap (λ k. get_or (set marks root true) k false) (nat_same name root e) ∙ get_or-set_same marks root true false within
            ∙ sym (counted_more keys counts i name
            ∙ ap (λ b. counted_below keys counts i name || (b && (name == root_at keys i))) some
            ∙ ap (λ r. counted_below keys counts i name || (name == r)) is
            ∙ ap (λ b. counted_below keys counts i name || b) e ∙ or-true (counted_below keys counts i name))
        | inr ne ↦
            get_or-set_other marks root name true false (grind (arith, nat_tests)) ∙ far.each name h
            ∙ sym (counted_more keys counts i name
            ∙ ap (λ b. counted_below keys counts i name || (b && (name == root_at keys i))) some
            ∙ ap (λ r. counted_below keys counts i name || (name == r)) is
            ∙ ap (λ b. counted_below keys counts i name || b) ne ∙ or-false (counted_below keys counts i name))
      ];
}

-- one key without
pub counted_none : (n i : ℕ) (keys : List Key) (counts : List ℕ) (marks : List Bool) → has_count counts i ≡ false
    → AreMarked n (counted_below keys counts i) marks → AreMarked n (counted_below keys counts (i + 1)) marks
counted_none n i keys counts marks none far = record {
  len = far.len;
  each = λ name h.
      far.each name h
      ∙ sym (counted_more keys counts i name ∙ ap (λ b. counted_below keys counts i name || (b && (name == root_at keys i))) none ∙ or-false (counted_below keys counts i name));
}

-- ---- keys whose functions have marks

pub one_more : (p : ℕ → Bool) (i : ℕ) (old new : List KeyId) (key : KeyId) → new ≡ old ++ key ∷ [] → key.0 ≡ i → p i ≡ true
    → map (λ key. key.0) old ≡ filter p (range_with_len 0 i) → map (λ key. key.0) new ≡ filter p (range_with_len 0 (i + 1))
one_more p i old new key pushed is some far =
    ap (map (λ (key : KeyId). key.0)) pushed ∙ map-append (λ (key : KeyId). key.0) old (key ∷ []) ∙ (λ m. far m ++ is m ∷ [])
    ∙ sym (ap (λ b. filter p (range_with_len 0 i) ++ cond b (i ∷ []) []) some) ∙ sym (filtered_more p i)

pub no_more : (p : ℕ → Bool) (i : ℕ) (old : List KeyId) → p i ≡ false
    → map (λ key. key.0) old ≡ filter p (range_with_len 0 i) → map (λ key. key.0) old ≡ filter p (range_with_len 0 (i + 1))
no_more p i old none far =
    far ∙ sym (append-nil (filter p (range_with_len 0 i)))
    ∙ sym (ap (λ b. filter p (range_with_len 0 i) ++ cond b (i ∷ []) []) none) ∙ sym (filtered_more p i)

pub root_given : (n : ℕ) (keys : List Key) → All (λ key. key.root.0 < n) keys → (id : ℕ) (key : Key) → slice_get keys id ≡ Some key → key.root.0 < n
root_given n keys roots id key is = all_to_each (λ (k : Key). k.root.0 < n) key keys roots (given_among keys id key is)

pub marked_ids : (n known : ℕ) (keys : List Key) (counts : List ℕ) (calls : List Call) (heads : List Head) (marks lent : List Bool)
    → All (λ key. key.root.0 < n) keys → known ≤ length keys → AreMarked n (stands keys counts calls heads) marks → lent ≡ marks
    → filter (has_mark keys lent) (range_with_len 0 known) ≡ standing_ids keys counts calls heads known
marked_ids n known keys counts calls heads marks lent roots few are_marked same =
    ap (λ ms. filter (has_mark keys ms) (range_with_len 0 known)) same
    ∙ filter_same (has_mark keys marks) (λ id. stands keys counts calls heads (root_at keys id)) (range_with_len 0 known)
    (all_among (λ id. has_mark keys marks id ≡ stands keys counts calls heads (root_at keys id)) (range_with_len 0 known)
    (λ id h.
    let low = among_range 0 known id h in
    let there = key_there keys id (omega (arith, low.1, few)) in
    let root : root_at keys id ≡ there.0.root.0 = ap root_of_given there.1 in
    are_marked.each (root_at keys id) (omega (arith, root, root_given n keys roots id there.0 there.1))))

-- they are keys
pub standing_low : (known : ℕ) (keys : List Key) (p : ℕ → Bool) (ids lent : List KeyId) → known ≤ length keys
    → map (λ key. key.0) ids ≡ filter p (range_with_len 0 known) → lent ≡ ids → All (λ key. key.0 < length keys) lent
standing_low known keys p ids lent few is same =
    subst (All (λ (key : KeyId). key.0 < length keys)) (sym same)
    (all_places (λ (key : KeyId). key.0 < length keys) ids
    (all_among (λ (key : KeyId). key.0 < length keys) ids
    (λ key h.
    let there = subst (Among key.0) is (among_map (λ (k : KeyId). k.0) key ids h) in
    let low = among_range 0 known key.0 (among_filter_back p key.0 (range_with_len 0 known) there).1 in
    omega (arith, low.1, few))))

-- ---- some item of a list passes a test

any_filter : {T : Type 0} (p q : T → Bool) (xs : List T) → list_any p (filter q xs) ≡ list_any (λ x. q x && p x) xs
any_filter p q [] = refl
any_filter p q (x ∷ xs) = by (q x) (any_filter p q xs)
  where
    by : (b : Bool) → list_any p (filter q xs) ≡ list_any (λ y. q y && p y) xs → list_any p (cond b (x ∷ filter q xs) (filter q xs)) ≡ ((b && p x) || list_any (λ y. q y && p y) xs)
    by true rest = ap (λ c. p x || c) rest
    by false rest = rest

any_same : {T : Type 0} (p q : T → Bool) (xs : List T) → AllByRecursion (λ x. p x ≡ q x) xs → list_any p xs ≡ list_any q xs
any_same p q [] all = refl
any_same p q (x ∷ xs) all = λ i. all.0 i || any_same p q xs all.1 i

-- ---- the function of a key, by number and by way

module _ (names : List (List ℕ)) (keys : List Key) (counts : List ℕ) (calls : List Call) (heads : List Head)
    (names_apart : IsNumbered names) (given : AreGiven (length names) keys calls heads) where
  same_root : (m n : ℕ) → m < length names → n < length names → same_step (to_function (name_at names m)) (to_function (name_at names n)) ≡ (m == n)
  same_root m n h g =
      bool_same (same_step (to_function (name_at names m)) (to_function (name_at names n))) (m == n)
      (λ e. let same : m ≡ n = names_once names names_apart m n h g (ap (λ s. s.name) (same_steps (to_function (name_at names m)) (to_function (name_at names n)) e)) in grind (arith, nat_tests))
      (λ e. subst (λ k. same_step (to_function (name_at names m)) (to_function (name_at names k)) ≡ true) (nat_same m n e) (step_itself (to_function (name_at names m))))

  root_low : (id : ℕ) (key : Key) → slice_get keys id ≡ Some key → key.root.0 < length names
  root_low id key is = (all_to_each (HasNames (length names)) key keys given.key_names (given_among keys id key is)).0

  -- the way of a key
  way_by : Key → Way
  way_by key = map (named names) (steps_of key)

  way_is : (id : ℕ) (key : Key) → slice_get keys id ≡ Some key → way_at names keys id ≡ way_by key
  unfolding way_by
  way_is id key is = ap (λ o. map (named names) (steps_of_given o)) is

  module _ (key : Key) (low : key.root.0 < length names) where
    key_tells : (test : Bool) (k : ℕ) → k < length keys → (test && same_function (way_by key) (way_at names keys k)) ≡ (test && (key.root.0 == root_at keys k))
    unfolding way_by
    key_tells test k within =
        let other = key_there keys k within in
        ap (λ b. test && b)
        (ap (same_function (way_by key)) (way_is k other.0 other.1)
        ∙ same_root key.root.0 other.0.root.0 low (root_low k other.0 other.1)
        ∙ ap (λ o. key.root.0 == root_of_given o) (sym other.1))

    counts_tell : list_any (same_function (way_by key)) (map (λ (c : Way × ℕ). c.0) (filter (λ (c : Way × ℕ). nat_lt 0 c.1) (said names keys counts calls heads).counts)) ≡ is_counted keys counts key.root.0
    counts_tell =
        let f = same_function (way_by key) in
        let g : ℕ → Way × ℕ = λ id. (way_at names keys id, get_or counts id 0) in
        let range = range_with_len 0 (length keys) in
        any_map f (λ (c : Way × ℕ). c.0) (filter (λ (c : Way × ℕ). nat_lt 0 c.1) (map g range))
        ∙ any_filter (λ (c : Way × ℕ). f c.0) (λ (c : Way × ℕ). nat_lt 0 c.1) (map g range)
        ∙ any_map (λ (c : Way × ℕ). nat_lt 0 c.1 && f c.0) g range
        ∙ any_same (λ id. has_count counts id && f (way_at names keys id)) (λ id. has_count counts id && (key.root.0 == root_at keys id)) range
        (all_among (λ id. (has_count counts id && f (way_at names keys id)) ≡ (has_count counts id && (key.root.0 == root_at keys id))) range
        (λ id h. let bound = among_range 0 (length keys) id h in key_tells (has_count counts id) id (omega (arith, bound.1))))

    calls_tell : list_any (same_function (way_by key)) (map (λ (c : Way × List ℕ × ℕ). c.0) (filter (λ (c : Way × List ℕ × ℕ). nat_lt 0 c.2) (said names keys counts calls heads).calls)) ≡ is_called_from keys calls key.root.0
    calls_tell =
        let f = same_function (way_by key) in
        let g : Call → Way × List ℕ × ℕ = λ call. (way_at names keys call.key.0, name_at names call.callee.0, call.times) in
        any_map f (λ (c : Way × List ℕ × ℕ). c.0) (filter (λ (c : Way × List ℕ × ℕ). nat_lt 0 c.2) (map g calls))
        ∙ any_filter (λ (c : Way × List ℕ × ℕ). f c.0) (λ (c : Way × List ℕ × ℕ). nat_lt 0 c.2) (map g calls)
        ∙ any_map (λ (c : Way × List ℕ × ℕ). nat_lt 0 c.2 && f c.0) g calls
        ∙ any_same (λ (call : Call). was_made call && f (way_at names keys call.key.0)) (λ (call : Call). was_made call && (key.root.0 == root_at keys call.key.0)) calls
        (all_among (λ (call : Call). (was_made call && f (way_at names keys call.key.0)) ≡ (was_made call && (key.root.0 == root_at keys call.key.0))) calls
        (λ call h. key_tells (was_made call) call.key.0 (all_to_each (IsGiven (length keys) (length names)) call calls given.called h).0))

    heads_tell : list_any (same_function (way_by key)) (entered (said names keys counts calls heads)) ≡ is_entered heads key.root.0
    unfolding way_by
    heads_tell =
        let f = same_function (way_by key) in
        let g : Head → List ℕ × ℕ = λ head. (name_at names head.name.0, head.times) in
        any_map f (λ (h : List ℕ × ℕ). to_function h.0 ∷ []) (filter (λ (h : List ℕ × ℕ). nat_lt 0 h.1) (map g heads))
        ∙ any_filter (λ (h : List ℕ × ℕ). f (to_function h.0 ∷ [])) (λ (h : List ℕ × ℕ). nat_lt 0 h.1) (map g heads)
        ∙ any_map (λ (h : List ℕ × ℕ). nat_lt 0 h.1 && f (to_function h.0 ∷ [])) g heads
        ∙ any_same (λ (head : Head). was_entered head && f (to_function (name_at names head.name.0) ∷ [])) (λ (head : Head). was_entered head && (key.root.0 == head.name.0)) heads
        (all_among (λ (head : Head). (was_entered head && f (to_function (name_at names head.name.0) ∷ [])) ≡ (was_entered head && (key.root.0 == head.name.0))) heads
        (λ head h. ap (λ b. was_entered head && b) (same_root key.root.0 head.name.0 low (all_to_each (λ (x : Head). x.name.0 < length names) head heads given.entered h))))

    key_stands : stands_in (said names keys counts calls heads) (way_by key) ≡ stands keys counts calls heads key.root.0
    key_stands =
        let f = same_function (way_by key) in
        let p = said names keys counts calls heads in
        let counted : List Way = map (λ (c : Way × ℕ). c.0) (filter (λ (c : Way × ℕ). nat_lt 0 c.1) p.counts) in
        let called : List Way = map (λ (c : Way × List ℕ × ℕ). c.0) (filter (λ (c : Way × List ℕ × ℕ). nat_lt 0 c.2) p.calls) in
        list_any-append f (counted ++ called) (entered p)
        ∙ ap (λ b. b || list_any f (entered p)) (list_any-append f counted called)
        ∙ (λ i. (counts_tell i || calls_tell i) || heads_tell i)

  -- a key's function stands in a profile where its number is one of those that have marks
  stands_by_number : (id : ℕ) → id < length keys → stands_in (said names keys counts calls heads) (way_at names keys id) ≡ stands keys counts calls heads (root_at keys id)
  stands_by_number id within =
      let there = key_there keys id within in
      ap (stands_in (said names keys counts calls heads)) (way_is id there.0 there.1)
      ∙ key_stands there.0 (root_low id there.0 there.1)
      ∙ ap (λ o. stands keys counts calls heads (root_of_given o)) (sym there.1)

  -- so the keys that are taken are those that the definition asks for
  pub standing_are : (known : ℕ) (ids : List KeyId) → known ≤ length keys → map (λ key. key.0) ids ≡ standing_ids keys counts calls heads known
      → ways_said names keys ids ≡ filter (stands_in (said names keys counts calls heads)) (first_ways names keys known)
  standing_are known ids few is =
      sym (map_map (way_at names keys) (λ (key : KeyId). key.0) ids)
      ∙ ap (map (way_at names keys))
      (is
      ∙ filter_same (λ id. stands keys counts calls heads (root_at keys id)) (λ id. stands_in (said names keys counts calls heads) (way_at names keys id)) (range_with_len 0 known)
      (all_among (λ id. stands keys counts calls heads (root_at keys id) ≡ stands_in (said names keys counts calls heads) (way_at names keys id)) (range_with_len 0 known)
      (λ id h. let low = among_range 0 known id h in sym (stands_by_number id (omega (arith, low.1, few))))))
      ∙ sym (kept_map (stands_in (said names keys counts calls heads)) (way_at names keys) (range_with_len 0 known))

-- ---- profiles that count the same

any_inside : {T : Type 0} (f : T → Bool) (xs ys : List T) → Inside xs ys → list_any f xs ≡ true → list_any f ys ≡ true
unfolding Inside
any_inside f xs ys inside e = let found = any_among f xs e in among_any f found.0 ys (inside found.0 found.1) found.2

stands_inside : (p q : Profile) → CountTheSame p q → (way : Way) → stands_in p way ≡ true → stands_in q way ≡ true
stands_inside p q same way =
    any_inside (same_function way) (recorded p ++ entered p) (recorded q ++ entered q)
    (append_inside (recorded p) (entered p) (recorded q) (entered q) (recorded_inside p q same) (entered_inside p q same))

-- have the same functions
pub stands_alike : (p q : Profile) → CountTheSame p q → (way : Way) → stands_in p way ≡ stands_in q way
stands_alike p q same way = bool_same (stands_in p way) (stands_in q way) (stands_inside p q same way) (stands_inside q p (back same) way)

-- and the same lines
pub standing_lines_by_counts : (ways : List Way) (p q : Profile) → CountTheSame p q → standing_lines_of ways p ≡ standing_lines_of ways q
standing_lines_by_counts ways p q same =
    lines_with_are_by_counts (filter (stands_in p) ways) p q same
    ∙ (λ i. lines_with (filter (λ way. stands_alike p q same way i) ways) q)
