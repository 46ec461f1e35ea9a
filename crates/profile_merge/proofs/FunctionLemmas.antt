-- How many functions have a line.
use Rattle.std.proofs.Common.{◌≡◌, ℕ, zero, suc, ◌+◌, ◌<◌, ◌==◌, nat_lt, Bool, true, false, cond, ◌&&◌, ◌||◌, List, [], ◌∷◌, ◌++◌, map, filter, take, length, get_or, Some, refl, sym, ap, subst, ◌∙◌, arith}
use Rattle.std.specs.Prelude.{IsPermutation, not, slice_get, slice_index, if◌then◌else◌}
use Rattle.std.specs.List.{AllByRecursion, filter_map, flat_map, list_any}
use Rattle.std.specs.List.Sorted.{IsStrictlySortedBy}
use Rattle.std.specs.Ordering.{eq_by_cmp, is_eq}
use Rattle.std.specs.declared.cmp.Ordering.{Ordering}
use Rattle.std.specs.declared.cmp.Ordering.TheVariants.{Less, Equal, Greater}
use Rattle.std.proofs.lemmas.Bool.Decides.{nat_tests}
use Rattle.std.proofs.lemmas.List.{append-nil, length-map, take_more, map-append}
use Rattle.std.proofs.lemmas.List.Elements.{filter-append}
use Rattle.std.proofs.lemmas.List.Kept.{IsStrictlySortedBy-filter}
use Rattle.std.proofs.lemmas.List.Sorted.{IsPermutation-refl, IsPermutation-cons, IsPermutation-trans, IsPermutation-sym, IsPermutation-append_left, IsPermutation-middle, IsPermutation-map}
use Rattle.std.proofs.lemmas.Cmp.{tied_itself}
use Rattle.key_types.specs.declared.key.Key.{Key}
use Rattle.profile_model.proofs.OrderLemmas.{ways_tell_apart}
use Rattle.profile_model.proofs.OrderedLemmas.{above-trans, has-below, ordered_is_in_order, only_ordered_is_in_order}
use Rattle.profile_model.specs.Laws.{TellsApart, has}
use Rattle.profile_model.specs.Orders.{ordered, placed, with_item, way_cmp}
use Rattle.profile_model.specs.Profile.{Profile, line_at, line_by, lines_of, recorded, entered, written, total_of_function}
use Rattle.profile_model.specs.Spelled.{Number, as_count, as_call, as_head, profile_by}
use Rattle.profile_model.specs.Summary.{function_count, is_function}
use Rattle.profile_model.specs.Ways.{Kind, Step, Way, function, body, call, to_function, beginnings, last_step}
use Rattle.profile_tree.proofs.ListLemmas as lists
use Rattle.profile_tree.proofs.ListLemmas.{Among, bool_same, bool_cases, among_filter, among_filter_back, among_has, has_among, among_permuted, all_append, ordered_alike}
use Rattle.profile_tree.proofs.SumLemmas.{all_to_each, given_among}
use Rattle.profile_tree.proofs.WayLemmas.{names_once}
use Rattle.profile_tree.specs.Said.{way_at}
use Rattle.profile_tree.specs.Known.{HasNames}
use Rattle.profile_tree.specs.Steps.{at_line, name_at, named, frame_step, steps_of_given}
use Rattle.key_types.specs.declared.key.Frame.{Frame}
use Rattle.profile_text.proofs.NumberLemmas as numbers
use Rattle.profile_text.specs.Draft.{IsGivenItem, IsGivenWhat, number_told}
use Rattle.profile_text.specs.Numbers.{counted, root_at, root_of, root_of_given}
use Rattle.profile_text.specs.declared.item.Item.{Item}
use Rattle.profile_text.specs.declared.item.What.{What}
use Rattle.profile_text.specs.declared.item.What.TheVariants.{Head, Count, Target}
use Rattle.profile_merge.specs.Functions.{AreMarked, CountsRoot, roots, different, stands}
use Rattle.profile_merge.specs.Laws.{AreNumbered}
use Rattle.profile_merge.specs.Row.{IsWithSum}

-- ---- different numbers, with one number more
any_push : (p : ℕ → Bool) (ns : List ℕ) (n : ℕ) → list_any p (ns ++ n ∷ []) ≡ (list_any p ns || p n)
any_push p [] n = by (p n)
  where
    by : (b : Bool) → (b || false) ≡ (false || b)
    by true = refl
    by false = refl
any_push p (m ∷ ns) n = ap (λ b. p m || b) (any_push p ns n) ∙ by (p m) (list_any p ns) (p n)
  where
    by : (a b c : Bool) → (a || (b || c)) ≡ ((a || b) || c)
    by true b c = refl
    by false b c = refl

different_push : (ns : List ℕ) (n : ℕ) → different (ns ++ n ∷ []) ≡ different ns + cond (stands n ns) 0 1
different_push [] n = refl
different_push (m ∷ ns) n =
    (λ i. cond (any_push (λ k. m == k) ns n i) 0 1 + different_push ns n i) ∙ by (m == n) refl (stands m ns) (stands n ns) (λ e. ap (λ k. stands k ns) e)
    ∙ ap (λ b. cond (stands m ns) 0 1 + different ns + cond (b || stands n ns) 0 1) (turned m n)
  where
    turned : (a b : ℕ) → (a == b) ≡ (b == a)
    turned a b = bool_same (a == b) (b == a) (λ e. grind (arith, nat_tests)) (λ e. grind (arith, nat_tests))

    by : (b : Bool) → (m == n) ≡ b → (a c : Bool) → (m ≡ n → a ≡ c) → cond (a || b) 0 1 + (different ns + cond c 0 1) ≡ cond a 0 1 + different ns + cond (b || c) 0 1
    by false e true c same = omega arith
    by false e false c same = omega arith
    by true e true true same = omega arith
    by true e true false same = let is : m ≡ n = grind (arith, nat_tests) in let wrong = same is in absurd cc
    by true e false true same = let is : m ≡ n = grind (arith, nat_tests) in let wrong = same is in absurd cc
    by true e false false same = omega arith

-- ---- the loop over the items
pub none_marked : AreMarked [] []
none_marked k = refl

pub roots_more : (keys : List Key) (items : List Item) (i : ℕ) (d : Item) → i < length items
    → roots keys (take (i + 1) items) ≡ roots keys (take i items) ++ roots keys (get_or items i d ∷ [])
roots_more keys items i d within =
    ap (roots keys) (take_more items i d within)
    ∙ ap (map (λ (x : Item). root_of keys x.what)) (filter-append (λ (x : Item). nat_lt 0 x.times) (take i items) (get_or items i d ∷ []))
    ∙ map-append (λ (x : Item). root_of keys x.what) (filter (λ (x : Item). nat_lt 0 x.times) (take i items)) (filter (λ (x : Item). nat_lt 0 x.times) (get_or items i d ∷ []))

marked_more : (seen after ns : List ℕ) (n : ℕ) → AreMarked seen ns → IsWithSum seen n 1 after → AreMarked after (ns ++ n ∷ [])
marked_more seen after ns n are is k =
    ap (λ m. m == 0) (is k) ∙ by (n == k) refl (stands k ns) (are k) ∙ ap not (sym (any_push (λ m. k == m) ns n))
  where
    by : (b : Bool) → (n == k) ≡ b → (a : Bool) → (slice_index seen k == 0) ≡ not a → ((if b then 1 else slice_index seen k) == 0) ≡ not (a || (k == n))
    by true e a was = let same : (k == n) ≡ true = grind (arith, nat_tests) in sym (ap not (ap (λ c. a || c) same ∙ or_true a))
      where
        or_true : (a : Bool) → (a || true) ≡ true
        or_true true = refl
        or_true false = refl
    by false e a was = let other : (k == n) ≡ false = grind (arith, nat_tests) in was ∙ ap not (sym (ap (λ c. a || c) other ∙ or_false a))
      where
        or_false : (a : Bool) → (a || false) ≡ a
        or_false true = refl
        or_false false = refl

first_counts : (seen ns : List ℕ) (n : ℕ) → AreMarked seen ns → (slice_index seen n == 0) ≡ true → different (ns ++ n ∷ []) ≡ different ns + 1
first_counts seen ns n are first = different_push ns n ∙ ap (λ b. different ns + cond b 0 1) (by (stands n ns) (sym (are n) ∙ first))
  where
    by : (b : Bool) → not b ≡ true → b ≡ false
    by true e = absurd cc
    by false e = refl

other_counts_not : (seen ns : List ℕ) (n : ℕ) → AreMarked seen ns → (slice_index seen n == 0) ≡ false → different (ns ++ n ∷ []) ≡ different ns
other_counts_not seen ns n are marked = different_push ns n ∙ ap (λ b. different ns + cond b 0 1) (by (stands n ns) (sym (are n) ∙ marked)) ∙ add_none (different ns)
  where
    by : (b : Bool) → not b ≡ false → b ≡ true
    by true e = refl
    by false e = absurd cc

    add_none : (n : ℕ) → n + 0 ≡ n
    add_none n = omega arith

-- the function of an item is counted where it is the first, and marked
pub zero_counts : (keys : List Key) (item : Item) (seen : List ℕ) → item.times ≡ 0 → CountsRoot keys item 0 seen seen
zero_counts keys item seen zeros = record {
  few = omega arith;
  counts = λ ns are. ap different (same ns) ∙ add_none (different ns);
  marks = λ ns are. subst (AreMarked seen) (sym (same ns)) are;
}
  where
    no : nat_lt 0 item.times ≡ false
    no = grind (arith, nat_tests)

    same : (ns : List ℕ) → ns ++ roots keys (item ∷ []) ≡ ns
    same ns = ap (λ b. ns ++ map (λ (x : Item). root_of keys x.what) (cond b (item ∷ []) [])) no ∙ append-nil ns

    add_none : (n : ℕ) → n ≡ n + 0
    add_none n = omega arith

some_root : (keys : List Key) (item : Item) → 0 < item.times → roots keys (item ∷ []) ≡ root_of keys item.what ∷ []
some_root keys item some =
    let yes : nat_lt 0 item.times ≡ true = grind (arith, nat_tests) in
    ap (λ b. map (λ (x : Item). root_of keys x.what) (cond b (item ∷ []) [])) yes

pub first_root : (keys : List Key) (item : Item) (seen after : List ℕ) (root : ℕ) → 0 < item.times → root ≡ root_of keys item.what → (slice_index seen root == 0) ≡ true → IsWithSum seen root 1 after
    → CountsRoot keys item 1 seen after
first_root keys item seen after root some is first marked =
    let one : root ∷ [] ≡ roots keys (item ∷ []) = ap (λ n. n ∷ []) is ∙ sym (some_root keys item some) in
    record {
      few = omega arith;
      counts = λ ns are. subst (λ rs. different (ns ++ rs) ≡ different ns + 1) one (first_counts seen ns root are first);
      marks = λ ns are. subst (λ rs. AreMarked after (ns ++ rs)) one (marked_more seen after ns root are marked);
    }

pub other_root : (keys : List Key) (item : Item) (seen after : List ℕ) (root : ℕ) → 0 < item.times → root ≡ root_of keys item.what → (slice_index seen root == 0) ≡ false → IsWithSum seen root 1 after
    → CountsRoot keys item 0 seen after
other_root keys item seen after root some is other marked =
    let one : root ∷ [] ≡ roots keys (item ∷ []) = ap (λ n. n ∷ []) is ∙ sym (some_root keys item some) in
    record {
      few = omega arith;
      counts = λ ns are. subst (λ rs. different (ns ++ rs) ≡ different ns + 0) one (other_counts_not seen ns root are other ∙ add_none (different ns));
      marks = λ ns are. subst (λ rs. AreMarked after (ns ++ rs)) one (marked_more seen after ns root are marked);
    }
  where
    add_none : (n : ℕ) → n ≡ n + 0
    add_none n = omega arith

-- ---- lists in an order

-- what passes of an ordered list
filter_ordered : {T : Type 0} (cmp : T → T → Ordering) → TellsApart cmp → (p : T → Bool) (xs : List T) → filter p (ordered cmp xs) ≡ ordered cmp (filter p xs)
filter_ordered cmp t p xs =
    let in_order = ordered_is_in_order cmp t xs in
    only_ordered_is_in_order cmp t (filter p xs) (filter p (ordered cmp xs)) (record {
      ascending = IsStrictlySortedBy-filter cmp p (ordered cmp xs) in_order.ascending;
      same = λ z. bool_same (has cmp z (filter p (ordered cmp xs))) (has cmp z (filter p xs))
          (λ h. let b = among_filter_back p z (ordered cmp xs) (has_among cmp t z (filter p (ordered cmp xs)) h) in
          among_has cmp t z (filter p xs) (among_filter p z xs b.0 (has_among cmp t z xs (sym (in_order.same z) ∙ among_has cmp t z (ordered cmp xs) b.1))))
          (λ h. let b = among_filter_back p z xs (has_among cmp t z (filter p xs) h) in
          among_has cmp t z (filter p (ordered cmp xs)) (among_filter p z (ordered cmp xs) b.0 (has_among cmp t z (ordered cmp xs) (in_order.same z ∙ among_has cmp t z xs b.1))));
    })

-- one item more is one more, unless it is there
length_with : {T : Type 0} (cmp : T → T → Ordering) → TellsApart cmp → (x : T) (xs : List T) → IsStrictlySortedBy cmp xs → length (with_item cmp x xs) ≡ cond (has cmp x xs) 0 1 + length xs
unfolding IsStrictlySortedBy
length_with cmp t x [] sorted = omega arith
length_with cmp t x (y ∷ xs) sorted =
    elim (cmp x y) as (λ r. cmp x y ≡ r → length (placed r x y xs (with_item cmp x xs)) ≡ cond (is_eq r || has cmp x xs) 0 1 + suc (length xs)) [
      | Less ↦ λ e. let none : cond {A = ℕ} (has cmp x xs) 0 1 ≡ 1 = ap (λ b. cond b 0 1) (has-below cmp x xs (above-trans cmp t.total x y xs e sorted.0)) in omega arith
      | Equal ↦ λ e. omega arith
      | Greater ↦ λ e. let rest = length_with cmp t x xs sorted.1 in later (cond (has cmp x xs) 0 1) (length xs) (length (with_item cmp x xs)) rest
    ] refl
  where
    later : (a n m : ℕ) → m ≡ a + n → suc m ≡ a + suc n
    later a n m e = omega arith

-- ---- the ways of functions
abbrev root_way : List (List ℕ) → ℕ → Way
root_way names id = to_function (name_at names id) ∷ []

-- ways of different functions
module _ (names : List (List ℕ)) (keys : List Key) (are : AreNumbered names keys) (cmp : Way → Way → Ordering) (t : TellsApart cmp) where
  same_root : (i j : ℕ) → i < length names → j < length names → eq_by_cmp cmp (root_way names i) (root_way names j) ≡ (i == j)
  same_root i j h g = bool_same (eq_by_cmp cmp (root_way names i) (root_way names j)) (i == j)
      (λ e. let same : i ≡ j = names_once names are.names_once i j h g (ap name_of (t.apart _ _ (tied (cmp (root_way names i) (root_way names j)) e))) in grind (arith, nat_tests))
      (λ e. let same : i ≡ j = grind (arith, nat_tests) in ap is_eq (subst (λ k. cmp (root_way names i) (root_way names k) ≡ Equal) same (tied_itself t.total (root_way names i))))
    where
      name_of : Way → List ℕ
      name_of [] = []
      name_of (s ∷ way) = s.name

      tied : (r : Ordering) → is_eq r ≡ true → r ≡ Equal
      tied Less e = absurd cc
      tied Equal e = refl
      tied Greater e = absurd cc

  has_root : (i : ℕ) (ns : List ℕ) → i < length names → AllByRecursion (λ n. n < length names) ns → has cmp (root_way names i) (map (root_way names) ns) ≡ stands i ns
  has_root i [] h all = refl
  has_root i (n ∷ ns) h all = λ k. same_root i n h all.0 k || has_root i ns h all.1 k

  length_roots : (ns : List ℕ) → AllByRecursion (λ n. n < length names) ns → length (ordered cmp (map (root_way names) ns)) ≡ different ns
  length_roots [] all = refl
  length_roots (n ∷ ns) all =
      let in_order = ordered_is_in_order cmp t (map (root_way names) ns) in
      length_with cmp t (root_way names n) (ordered cmp (map (root_way names) ns)) in_order.ascending
      ∙ (λ k. cond ((in_order.same (root_way names n) ∙ has_root n ns all.0 all.1) k) 0 1 + length_roots ns all.1 k)

-- ---- ways that begin with a function, and have no other

abbrev is_root : Kind → Bool
is_root function = true
is_root body = false
is_root call = false

IsWay : Way → Type 0
IsWay [] = ⊥
IsWay (s ∷ way) = (s.kind ≡ function) × AllByRecursion (λ s. is_root s.kind ≡ false) way

abbrev root_in : Way → Way
root_in [] = []
root_in (s ∷ way) = s ∷ []

is_function_by : (p : Profile) (way : Way) (s : Step) (kind : Kind) → is_function (line_by p way s kind) ≡ is_root kind
is_function_by p way s function = refl
is_function_by p way s body = refl
is_function_by p way s call = refl

no_more : (p : Profile) (s : Step) (way : Way) → AllByRecursion (λ t. is_root t.kind ≡ false) way
    → filter (λ w. is_function (line_at p w)) (map (λ w. s ∷ w) (beginnings way)) ≡ []
no_more p s way all = none (beginnings way) (ends way all)
  where
    Ends : Way → Type 0
    Ends [] = ⊥
    Ends (t ∷ w) = is_root (last_step t w).kind ≡ false

    ends_from : (t : Step) (ws : List Way) → AllByRecursion Ends ws → AllByRecursion Ends (map (λ w. t ∷ w) ws)
    ends_from t [] all = tt
    ends_from t ([] ∷ ws) all = absurd all.0
    ends_from t ((u ∷ w) ∷ ws) all = (all.0, ends_from t ws all.1)

    ends : (w : Way) → AllByRecursion (λ t. is_root t.kind ≡ false) w → AllByRecursion Ends (beginnings w)
    ends [] all = tt
    ends (t ∷ w) all = (all.0, ends_from t (beginnings w) (ends w all.1))

    none : (ws : List Way) → AllByRecursion Ends ws → filter (λ w. is_function (line_at p w)) (map (λ w. s ∷ w) ws) ≡ []
    none [] all = refl
    none ([] ∷ ws) all = absurd all.0
    none ((t ∷ w) ∷ ws) all =
        ap (λ b. cond b ((s ∷ t ∷ w) ∷ filter (λ w. is_function (line_at p w)) (map (λ w. s ∷ w) ws)) (filter (λ w. is_function (line_at p w)) (map (λ w. s ∷ w) ws)))
        (is_function_by p (s ∷ t ∷ w) (last_step t w) (last_step t w).kind ∙ all.0)
        ∙ none ws all.1

one_function : (p : Profile) (way : Way) → IsWay way → filter (λ w. is_function (line_at p w)) (beginnings way) ≡ root_in way ∷ []
unfolding IsWay
one_function p [] is = absurd is
one_function p (s ∷ way) is =
    ap (λ b. cond b ((s ∷ []) ∷ filter (λ w. is_function (line_at p w)) (map (λ w. s ∷ w) (beginnings way))) (filter (λ w. is_function (line_at p w)) (map (λ w. s ∷ w) (beginnings way))))
    (is_function_by p (s ∷ []) s s.kind ∙ ap is_root is.0)
    ∙ ap (λ ws. (s ∷ []) ∷ ws) (no_more p s way is.1)

functions_only : (p : Profile) (ways : List Way) → AllByRecursion IsWay ways → filter (λ w. is_function (line_at p w)) (flat_map beginnings ways) ≡ map root_in ways
functions_only p [] all = refl
functions_only p (way ∷ ways) all =
    filter-append (λ w. is_function (line_at p w)) (beginnings way) (flat_map beginnings ways)
    ∙ (λ i. one_function p way all.0 i ++ functions_only p ways all.1 i)

count_functions : (p : Profile) → AllByRecursion IsWay (recorded p ++ entered p)
    → function_count p ≡ length (ordered (way_cmp (total_of_function p)) (map root_in (recorded p ++ entered p)))
unfolding lines_of
count_functions p all =
    ap length (lists.filter_map is_function (line_at p) (written p))
    ∙ length-map (filter (λ w. is_function (line_at p w)) (written p)) (line_at p)
    ∙ ap length (filter_ordered (way_cmp (total_of_function p)) (ways_tell_apart (total_of_function p)) (λ w. is_function (line_at p w)) (flat_map beginnings (recorded p ++ entered p)))
    ∙ ap (λ ws. length (ordered (way_cmp (total_of_function p)) ws)) (functions_only p (recorded p ++ entered p) all)

-- ---- of items
abbrev is_head : What → Bool
is_head (Head name) = true
is_head (Count key) = false
is_head (Target key name) = false

abbrev is_count : What → Bool
is_count (Head name) = false
is_count (Count key) = true
is_count (Target key name) = false

abbrev is_target : What → Bool
is_target (Head name) = false
is_target (Count key) = false
is_target (Target key name) = true

-- the functions of the numbers of a kind
abbrev ids : List Key → (What → Bool) → List Item → List ℕ
ids keys kind items = map (λ item. root_of keys item.what) (filter (λ item. kind item.what && nat_lt 0 item.times) items)

-- numbers in their order, and kind by kind
by_kinds : (keys : List Key) (items : List Item) → IsPermutation (roots keys items) ((ids keys is_count items ++ ids keys is_target items) ++ ids keys is_head items)
by_kinds keys [] = IsPermutation-refl []
by_kinds keys (item ∷ items) = by item.what (nat_lt 0 item.times) (by_kinds keys items)
  where
    counts : List ℕ
    counts = ids keys is_count items

    targets : List ℕ
    targets = ids keys is_target items

    heads : List ℕ
    heads = ids keys is_head items

    -- the functions with one number more
    more : (What → Bool) → What → Bool → List ℕ
    more kind what some = map (λ (x : Item). root_of keys x.what) (cond (kind what && some) (record item { what = what } ∷ filter (λ (x : Item). kind x.what && nat_lt 0 x.times) items) (filter (λ (x : Item). kind x.what && nat_lt 0 x.times) items))

    by : (what : What) (some : Bool) → IsPermutation (roots keys items) ((counts ++ targets) ++ heads)
        → IsPermutation (map (λ (x : Item). root_of keys x.what) (cond some (record item { what = what } ∷ filter (λ (x : Item). nat_lt 0 x.times) items) (filter (λ (x : Item). nat_lt 0 x.times) items)))
        ((more is_count what some ++ more is_target what some) ++ more is_head what some)
    by (Head name) false rest = rest
    by (Count key) false rest = rest
    by (Target key name) false rest = rest
    by (Count key) true rest = IsPermutation-cons (root_of keys (Count key)) _ _ rest
    by (Target key name) true rest =
        IsPermutation-trans _ _ _ (IsPermutation-cons (root_of keys (Target key name)) _ _ rest)
        (IsPermutation-sym _ _ (IsPermutation-append_left heads (counts ++ root_of keys (Target key name) ∷ targets) (root_of keys (Target key name) ∷ (counts ++ targets)) (IsPermutation-middle counts (root_of keys (Target key name)) targets)))
    by (Head name) true rest =
        IsPermutation-trans _ _ _ (IsPermutation-cons name.0 _ _ rest) (IsPermutation-sym _ _ (IsPermutation-middle (counts ++ targets) name.0 heads))

module _ (names : List (List ℕ)) (keys : List Key) (are : AreNumbered names keys) where
  key_of : (k : ℕ) → k < length keys → (key : Key) × (slice_get keys k ≡ Some key)
  key_of k h = numbers.item_there keys k h

  -- the way of a key begins with its function
  key_root : (k : ℕ) → k < length keys → root_in (way_at names keys k) ≡ root_way names (root_at keys k)
  key_root k h = let found = key_of k h in ap (λ o. root_in (map (named names) (steps_of_given o))) found.1 ∙ ap (λ o. root_way names (root_of_given o)) (sym found.1)

  key_way : (k : ℕ) → k < length keys → IsWay (way_at names keys k)
  unfolding IsWay
  key_way k h = let found = key_of k h in subst (λ o. IsWay (map (named names) (steps_of_given o))) (sym found.1) (refl, frames found.0.offset found.0.disc found.0.calls)
    where
      frames : (offset disc : ℕ) (calls : List Frame) → AllByRecursion (λ s. is_root s.kind ≡ false) (map (named names) (map frame_step calls ++ at_line offset disc ∷ []))
      frames offset disc [] = (refl, tt)
      frames offset disc (frame ∷ calls) = (refl, frames offset disc calls)

  head_way : (name : List ℕ) → IsWay (to_function name ∷ [])
  unfolding IsWay
  head_way name = (refl, tt)

  root_within : (k : ℕ) → k < length keys → root_at keys k < length names
  root_within k h = numbers.root_within (length names) keys are.key_names k h

  -- one more that is counted, or none
  one_more : {T : Type 0} (way_of : T → Way) (x : T) (xs : List T) (item : Item) (items : List Item) (b : Bool) → root_in (way_of x) ≡ root_way names (root_of keys item.what)
      → map root_in (map way_of xs) ≡ map (root_way names) (map (λ (i : Item). root_of keys i.what) items)
      → map root_in (map way_of (cond b (x ∷ xs) xs)) ≡ map (root_way names) (map (λ (i : Item). root_of keys i.what) (cond b (item ∷ items) items))
  one_more way_of x xs item items true first rest = λ i. first i ∷ rest i
  one_more way_of x xs item items false first rest = rest

  one_way : {T : Type 0} (way_of : T → Way) (x : T) (xs : List T) (b : Bool) → IsWay (way_of x) → AllByRecursion IsWay (map way_of xs) → AllByRecursion IsWay (map way_of (cond b (x ∷ xs) xs))
  one_way way_of x xs true first rest = (first, rest)
  one_way way_of x xs false first rest = rest

  abbrev counts_in : List Number → List (Way × ℕ)
  counts_in numbers = filter (λ c. nat_lt 0 c.1) (filter_map (λ n. as_count n.what n.times) numbers)

  abbrev calls_in : List Number → List (Way × List ℕ × ℕ)
  calls_in numbers = filter (λ c. nat_lt 0 c.2) (filter_map (λ n. as_call n.what n.times) numbers)

  abbrev heads_in : List Number → List (List ℕ × ℕ)
  heads_in numbers = filter (λ h. nat_lt 0 h.1) (filter_map (λ n. as_head n.what n.times) numbers)

  abbrev way_of_head : List ℕ × ℕ → Way
  way_of_head h = to_function h.0 ∷ []

  -- what is told of one kind of numbers
  record Kinds (items : List Item) : Type 0 where
    counts : map root_in (map (λ c. c.0) (counts_in (map (number_told names keys) items))) ≡ map (root_way names) (ids keys is_count items)
    calls : map root_in (map (λ c. c.0) (calls_in (map (number_told names keys) items))) ≡ map (root_way names) (ids keys is_target items)
    heads : map root_in (map way_of_head (heads_in (map (number_told names keys) items))) ≡ map (root_way names) (ids keys is_head items)
    count_ways : AllByRecursion IsWay (map (λ c. c.0) (counts_in (map (number_told names keys) items)))
    call_ways : AllByRecursion IsWay (map (λ c. c.0) (calls_in (map (number_told names keys) items)))
    head_ways : AllByRecursion IsWay (map way_of_head (heads_in (map (number_told names keys) items)))
    within : AllByRecursion (λ n. n < length names) (roots keys items)

  kinds : (items : List Item) → AllByRecursion (IsGivenItem (length names) (length keys)) items → Kinds items
  kinds [] all = record { counts = refl; calls = refl; heads = refl; count_ways = tt; call_ways = tt; head_ways = tt; within = tt }
  kinds (item ∷ items) all = by item.what all.0 (kinds items all.1)
    where
      numbers : List Number
      numbers = map (number_told names keys) items

      some : Bool
      some = nat_lt 0 item.times

      root_more : (n : ℕ) (b : Bool) (what : What) → root_of keys what ≡ n → n < length names → AllByRecursion (λ m. m < length names) (roots keys items)
          → AllByRecursion (λ m. m < length names) (map (λ (i : Item). root_of keys i.what) (cond b (record item { what = what } ∷ filter (λ (i : Item). nat_lt 0 i.times) items) (filter (λ (i : Item). nat_lt 0 i.times) items)))
      root_more n true what is low rest = (subst (λ m. m < length names) (sym is) low, rest)
      root_more n false what is low rest = rest

      by : (what : What) → IsGivenWhat (length names) (length keys) what → Kinds items → Kinds (record item { what = what } ∷ items)
      by (Head name) given rest = record {
        counts = rest.counts;
        calls = rest.calls;
        heads = one_more way_of_head (name_at names name.0, item.times) (heads_in numbers) (record item { what = Head name }) (filter (λ (i : Item). is_head i.what && nat_lt 0 i.times) items) some refl rest.heads;
        count_ways = rest.count_ways;
        call_ways = rest.call_ways;
        head_ways = one_way way_of_head (name_at names name.0, item.times) (heads_in numbers) some (head_way (name_at names name.0)) rest.head_ways;
        within = root_more name.0 some (Head name) refl given rest.within;
      }
      by (Count key) given rest = record {
        counts = one_more (λ (c : Way × ℕ). c.0) (way_at names keys key.0, item.times) (counts_in numbers) (record item { what = Count key }) (filter (λ (i : Item). is_count i.what && nat_lt 0 i.times) items) some (key_root key.0 given) rest.counts;
        calls = rest.calls;
        heads = rest.heads;
        count_ways = one_way (λ (c : Way × ℕ). c.0) (way_at names keys key.0, item.times) (counts_in numbers) some (key_way key.0 given) rest.count_ways;
        call_ways = rest.call_ways;
        head_ways = rest.head_ways;
        within = root_more (root_at keys key.0) some (Count key) refl (root_within key.0 given) rest.within;
      }
      by (Target key name) given rest = record {
        counts = rest.counts;
        calls = one_more (λ (c : Way × List ℕ × ℕ). c.0) (way_at names keys key.0, name_at names name.0, item.times) (calls_in numbers) (record item { what = Target key name }) (filter (λ (i : Item). is_target i.what && nat_lt 0 i.times) items) some (key_root key.0 given.0) rest.calls;
        heads = rest.heads;
        count_ways = rest.count_ways;
        call_ways = one_way (λ (c : Way × List ℕ × ℕ). c.0) (way_at names keys key.0, name_at names name.0, item.times) (calls_in numbers) some (key_way key.0 given.0) rest.call_ways;
        head_ways = rest.head_ways;
        within = root_more (root_at keys key.0) some (Target key name) refl (root_within key.0 given.0) rest.within;
      }

  -- the functions that have a line are the different ones
  pub functions_are : (items : List Item) → AllByRecursion (IsGivenItem (length names) (length keys)) items → function_count (counted names keys items) ≡ different (roots keys items)
  unfolding profile_by
  functions_are items all =
      count_functions p ways
      ∙ ap (λ ws. length (ordered cmp ws)) root_ways
      ∙ ap length (ordered_alike cmp t (map (root_way names) by_kind) (map (root_way names) (roots keys items)) (λ z. bool_same _ _ (moved by_kind (roots keys items) (IsPermutation-sym _ _ same) z) (moved (roots keys items) by_kind same z)))
      ∙ length_roots names keys are cmp t (roots keys items) all_kinds.within
    where
      p : Profile
      p = counted names keys items

      cmp : Way → Way → Ordering
      cmp = way_cmp (total_of_function p)

      t : TellsApart cmp
      t = ways_tell_apart (total_of_function p)

      all_kinds : Kinds items
      all_kinds = kinds items all

      by_kind : List ℕ
      by_kind = (ids keys is_count items ++ ids keys is_target items) ++ ids keys is_head items

      same : IsPermutation (roots keys items) by_kind
      same = by_kinds keys items

      moved : (xs ys : List ℕ) → IsPermutation xs ys → (z : Way) → has cmp z (map (root_way names) xs) ≡ true → has cmp z (map (root_way names) ys) ≡ true
      moved xs ys perm z h =
          among_has cmp t z (map (root_way names) ys)
          (among_permuted z (map (root_way names) ys) (map (root_way names) xs) (IsPermutation-map (root_way names) ys xs (IsPermutation-sym _ _ perm)) (has_among cmp t z (map (root_way names) xs) h))

      ways : AllByRecursion IsWay (recorded p ++ entered p)
      ways = all_append IsWay (recorded p) (entered p) (all_append IsWay _ _ all_kinds.count_ways all_kinds.call_ways) all_kinds.head_ways

      root_ways : map root_in (recorded p ++ entered p) ≡ map (root_way names) by_kind
      root_ways =
          map-append root_in (recorded p) (entered p)
          ∙ ap (λ ws. ws ++ map root_in (entered p)) (map-append root_in (map (λ c. c.0) (counts_in (map (number_told names keys) items))) (map (λ c. c.0) (calls_in (map (number_told names keys) items))))
          ∙ (λ i. (all_kinds.counts i ++ all_kinds.calls i) ++ all_kinds.heads i)
          ∙ ap (λ ws. ws ++ map (root_way names) (ids keys is_head items)) (sym (map-append (root_way names) (ids keys is_count items) (ids keys is_target items)))
          ∙ sym (map-append (root_way names) (ids keys is_count items ++ ids keys is_target items) (ids keys is_head items))
