-- Items, function by function, and the ways that they are made of.
use Rattle.std.proofs.Common.{◌≡◌, ◌<◌, ◌≤◌, ℕ, ◌+◌, Bool, true, false, cond, List, [], ◌∷◌, ◌++◌, map, filter, take, length, get_or, refl, sym, ap, subst, ◌∙◌, arith, All, IsPermutation}
use Rattle.std.specs.Prelude.{swap}
use Rattle.std.specs.List.{AllByRecursion, range_with_len}
use Rattle.std.specs.List.Sorted.{SwapsInRange, apply_swaps}
use Rattle.std.proofs.lemmas.List.{length-map, map-append, take_all, take_more, get_or-map, append-nil}
use Rattle.std.proofs.lemmas.List.Elements.{filter-append}
use Rattle.std.proofs.lemmas.List.Sorted.{All-permutation, IsPermutation-sym, IsPermutation-map, IsPermutation-trans, IsPermutation-refl, IsPermutation-append_left}
use Rattle.indexmap.proofs.ReorderLemmas.{map-swap}
use Rattle.key_types.specs.declared.ids.KeyId.{KeyId}
use Rattle.key_types.specs.declared.key.Key.{Key}
use Rattle.profile_tree.proofs.Filled.{from_none}
use Rattle.profile_tree.proofs.ListLemmas.{all_among, all_places, among_filter_back, among_range}
use Rattle.profile_tree.specs.Items.{Told, entered, is_written, of_count, ranked_source, sources, told_item, written}
use Rattle.profile_tree.specs.declared.head.Head.{Head}
use Rattle.profile_tree.specs.declared.items.Written.{Written}
use Rattle.profile_lists.specs.declared.pairs.Call.{Call}
use Rattle.profile_lists.specs.declared.item.Item.{Item}

-- what holds the images in another order has an order of its own
map_swaps : {S T : Type 0} (f : S → T) (xs : List S) (moves : List (ℕ × ℕ)) → map f (apply_swaps xs moves) ≡ apply_swaps (map f xs) moves
map_swaps f xs [] = refl
map_swaps f xs (m ∷ moves) = map-swap f (apply_swaps xs moves) m.0 m.1 ∙ ap (λ ys. swap ys m.0 m.1) (map_swaps f xs moves)

pub permuted_back : {S T : Type 0} (f : S → T) (xs : List S) (zs : List T) → IsPermutation (map f xs) zs → (ws : List S) × (map f ws ≡ zs) × IsPermutation xs ws
permuted_back f xs zs p = (
  apply_swaps xs p.moves,
  map_swaps f xs p.moves ∙ sym p.is,
  record { moves = p.moves; below = subst (λ n. SwapsInRange n p.moves) (length-map xs f) p.below; is = refl },
)

behind_behind : {T : Type 0} (xs ys zs : List T) → (xs ++ ys) ++ zs ≡ xs ++ (ys ++ zs)
behind_behind [] ys zs = refl
behind_behind (x ∷ xs) ys zs = ap (λ l. x ∷ l) (behind_behind xs ys zs)

-- one key more
pub filtered_more : (p : ℕ → Bool) (i : ℕ) → filter p (range_with_len 0 (i + 1)) ≡ filter p (range_with_len 0 i) ++ cond (p i) (i ∷ []) []
filtered_more p i = ap (filter p) (from_none i) ∙ filter-append p (range_with_len 0 i) (i ∷ [])

pub one_more : (p : ℕ → Bool) (i : ℕ) (old new : List Written) (w : Written) → new ≡ old ++ w ∷ [] → w.id ≡ i → p i ≡ true → map (λ w. w.id) old ≡ filter p (range_with_len 0 i) → map (λ w. w.id) new ≡ filter p (range_with_len 0 (i + 1))
one_more p i old new w pushed is some far =
    ap (map (λ w. w.id)) pushed ∙ map-append (λ (w : Written). w.id) old (w ∷ []) ∙ (λ m. far m ++ is m ∷ [])
    ∙ sym (ap (λ b. filter p (range_with_len 0 i) ++ cond b (i ∷ []) []) some) ∙ sym (filtered_more p i)

pub no_more : (p : ℕ → Bool) (i : ℕ) (old : List Written) → p i ≡ false → map (λ w. w.id) old ≡ filter p (range_with_len 0 i) → map (λ w. w.id) old ≡ filter p (range_with_len 0 (i + 1))
no_more p i old none far =
    far ∙ sym (append-nil (filter p (range_with_len 0 i)))
    ∙ sym (ap (λ b. filter p (range_with_len 0 i) ++ cond b (i ∷ []) []) none) ∙ sym (filtered_more p i)

-- all of them are keys
ids_low : (p : ℕ → Bool) (n : ℕ) → AllByRecursion (λ id. id < n) (filter p (range_with_len 0 n))
ids_low p n = all_among (λ id. id < n) (filter p (range_with_len 0 n)) (λ id h. (let b = among_range 0 n id (among_filter_back p id (range_with_len 0 n) h).1 in omega (arith, b.1)))

pub written_low : (p : ℕ → Bool) (n : ℕ) (ws lent : List Written) → lent ≡ ws → IsPermutation (map (λ w. w.id) ws) (filter p (range_with_len 0 n)) → All (λ w. w.id < n) lent
written_low p n ws lent same moved =
    subst (All (λ (w : Written). w.id < n)) (sym same) (λ k d low.
    let ids = map (λ (w : Written). w.id) ws in
    let all : All (λ id. id < n) ids =
    All-permutation (λ id. id < n) (filter p (range_with_len 0 n)) ids (IsPermutation-sym ids (filter p (range_with_len 0 n)) moved) (all_places (λ id. id < n) (filter p (range_with_len 0 n)) (ids_low p n)) in
    let size : length ids ≡ length ws = length-map ws (λ w. w.id) in
    subst (λ m. m < n) (get_or-map (λ (w : Written). w.id) ws k d d.id low) (all k d.id (omega (arith, size, low))))

-- all sources, in the order of the items
pub all_items : (keys : List Key) (counts tr nr : List ℕ) (calls : List Call) (besides : List KeyId) (heads : List Head) (ws lent : List Written) (none first items : List Item) → none ≡ [] → lent ≡ ws → IsPermutation (map (λ w. w.id) ws) (filter (is_written counts calls besides) (range_with_len 0 (length keys)))
    → IsPermutation (map told_item first) (map told_item none ++ map (ranked_source tr nr) (map (of_count keys counts) (map (λ w. w.id) lent)))
    → map told_item items ≡ map told_item first ++ map (ranked_source tr nr) (entered heads)
    → IsPermutation (map told_item items) (map (ranked_source tr nr) (sources keys counts calls besides heads))
all_items keys counts tr nr calls besides heads ws lent none first items empty same p one two =
    let rs = ranked_source tr nr in
    let ids = filter (is_written counts calls besides) (range_with_len 0 (length keys)) in
    let by_ids = map rs (map (of_count keys counts) (map (λ w. w.id) ws)) in
    let first_is : IsPermutation (map told_item first) by_ids =
    subst (IsPermutation (map told_item first)) (λ i. map told_item (empty i) ++ map rs (map (of_count keys counts) (map (λ w. w.id) (same i)))) one in
    let moved : IsPermutation by_ids (map rs (written keys counts calls besides)) =
    IsPermutation-map rs (map (of_count keys counts) (map (λ w. w.id) ws)) (map (of_count keys counts) ids) (IsPermutation-map (of_count keys counts) (map (λ w. w.id) ws) ids p) in
    let all_first = IsPermutation-trans (map told_item first) by_ids (map rs (written keys counts calls besides)) first_is moved in
    let ends = map rs (entered heads) in
    subst (λ ys. IsPermutation ys (map rs (sources keys counts calls besides heads))) (sym two)
    (subst (λ ys. IsPermutation (map told_item first ++ ends) ys) (sym (map-append rs (written keys counts calls besides) (entered heads)))
    (IsPermutation-append_left ends (map told_item first) (map rs (written keys counts calls besides)) all_first))

-- one item more
pub one_item : (keys : List Key) (counts tr nr : List ℕ) (i : ℕ) (ws : List Written) (d : Written) (old new : List Item) (item : Item) (was : List Told) → i < length ws → new ≡ old ++ item ∷ []
    → IsPermutation (map told_item old) (was ++ map (ranked_source tr nr) (map (of_count keys counts) (map (λ w. w.id) (take i ws)))) → told_item item ≡ ranked_source tr nr (of_count keys counts (get_or ws i d).id)
    → IsPermutation (map told_item new) (was ++ map (ranked_source tr nr) (map (of_count keys counts) (map (λ w. w.id) (take (i + 1) ws))))
one_item keys counts tr nr i ws d old new item was low pushed far is =
    let rs = ranked_source tr nr in
    let oc = of_count keys counts in
    let here = map rs (map oc (map (λ w. w.id) (take i ws))) in
    let last : Told = rs (oc (get_or ws i d).id) in
    let more : map rs (map oc (map (λ w. w.id) (take (i + 1) ws))) ≡ here ++ last ∷ [] =
    ap (λ xs. map rs (map oc (map (λ w. w.id) xs))) (take_more ws i d low)
    ∙ ap (λ xs. map rs (map oc xs)) (map-append (λ (c : Written). c.id) (take i ws) (get_or ws i d ∷ []))
    ∙ ap (map rs) (map-append oc (map (λ w. w.id) (take i ws)) ((get_or ws i d).id ∷ []))
    ∙ map-append rs (map oc (map (λ w. w.id) (take i ws))) (oc (get_or ws i d).id ∷ []) in
    let made : map told_item new ≡ map told_item old ++ last ∷ [] = ap (map told_item) pushed ∙ map-append told_item old (item ∷ []) ∙ (λ m. map told_item old ++ is m ∷ []) in
    let wanted : (was ++ here) ++ last ∷ [] ≡ was ++ map rs (map oc (map (λ w. w.id) (take (i + 1) ws))) = behind_behind was here (last ∷ []) ∙ ap (λ ys. was ++ ys) (sym more) in
    subst (λ ys. IsPermutation ys (was ++ map rs (map oc (map (λ w. w.id) (take (i + 1) ws))))) (sym made)
    (subst (IsPermutation (map told_item old ++ last ∷ [])) wanted (IsPermutation-append_left (last ∷ []) (map told_item old) (was ++ here) far))

-- how far keys were taken: what is appended, and the items of one function
abbrev pub Taken : List Key → List ℕ → List ℕ → List ℕ → List Written → List Told → ℕ → List Item → List Item → Type 0
Taken keys counts tr nr ws was i items group =
    IsPermutation (map told_item (items ++ group)) (was ++ map (ranked_source tr nr) (map (of_count keys counts) (map (λ w. w.id) (take i ws))))

module _ (keys : List Key) (counts tr nr : List ℕ) (ws : List Written) (was : List Told) where
  pub taken_none : (items group : List Item) → was ≡ map told_item items → group ≡ [] → Taken keys counts tr nr ws was 0 items group
  taken_none items group is empty =
      subst (λ g. IsPermutation (map told_item (items ++ g)) (was ++ [])) (sym empty)
      (subst (λ xs. IsPermutation (map told_item xs) (was ++ [])) (sym (append-nil items))
      (subst (λ ts. IsPermutation (map told_item items) (ts ++ [])) (sym is) (subst (IsPermutation (map told_item items)) (sym (append-nil (map told_item items))) (IsPermutation-refl (map told_item items)))))

  pub taken_sorted : (i : ℕ) (items group more none : List Item) → Taken keys counts tr nr ws was i items group → IsPermutation (items ++ group) more → none ≡ [] → Taken keys counts tr nr ws was i more none
  taken_sorted i items group more none far p empty =
      let target = was ++ map (ranked_source tr nr) (map (of_count keys counts) (map (λ w. w.id) (take i ws))) in
      subst (λ g. IsPermutation (map told_item (more ++ g)) target) (sym empty)
      (subst (λ xs. IsPermutation (map told_item xs) target) (sym (append-nil more))
      (IsPermutation-trans (map told_item more) (map told_item (items ++ group)) target
      (IsPermutation-sym (map told_item (items ++ group)) (map told_item more) (IsPermutation-map told_item (items ++ group) more p)) far))

  pub taken_one : (i : ℕ) (d : Written) (items group pushed : List Item) (item : Item) → i < length ws → pushed ≡ group ++ item ∷ [] → told_item item ≡ ranked_source tr nr (of_count keys counts (get_or ws i d).id)
      → Taken keys counts tr nr ws was i items group → Taken keys counts tr nr ws was (i + 1) items pushed
  taken_one i d items group pushed item low is told far =
      one_item keys counts tr nr i ws d (items ++ group) (items ++ pushed) item was low
      (ap (λ g. items ++ g) is ∙ sym (behind_behind items group (item ∷ []))) far told

  pub taken_all : (i : ℕ) (items group more : List Item) → length ws ≤ i → Taken keys counts tr nr ws was i items group → IsPermutation (items ++ group) more
      → IsPermutation (map told_item more) (was ++ map (ranked_source tr nr) (map (of_count keys counts) (map (λ w. w.id) ws)))
  taken_all i items group more high far p =
      subst (λ xs. IsPermutation (map told_item more) (was ++ map (ranked_source tr nr) (map (of_count keys counts) (map (λ w. w.id) xs)))) (take_all i ws high)
      (IsPermutation-trans (map told_item more) (map told_item (items ++ group)) (was ++ map (ranked_source tr nr) (map (of_count keys counts) (map (λ w. w.id) (take i ws))))
      (IsPermutation-sym (map told_item (items ++ group)) (map told_item more) (IsPermutation-map told_item (items ++ group) more p)) far)
