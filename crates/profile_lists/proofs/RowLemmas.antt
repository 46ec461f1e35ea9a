-- The totals of rows, and that rows are those of the beginnings in order.
use Rattle.std.proofs.Common.{◌≡◌, ℕ, zero, suc, ◌+◌, ◌-◌, ◌^◌, min, true, false, cond, List, [], ◌∷◌, ◌++◌, map, filter, drop, take, length, replicate, Some, None, refl, sym, ap, subst, ◌∙◌, inl, inr, arith, length-append, take-append-drop, sum_by}
use Rattle.std.specs.List.{AllByRecursion, AllZip, last_or}
use Rattle.std.specs.Ordering.{is_eq, is_gt, eq_by_cmp, ordering_reverse}
use Rattle.std.proofs.lemmas.Bool.{true≢false}
use Rattle.std.proofs.lemmas.Cmp.{tied_itself, upto}
use Rattle.std.proofs.lemmas.List.{length-map, map-append}
use Rattle.std.proofs.lemmas.List.Sums.{sum_by-cons}
use Rattle.std.specs.declared.cmp.Ordering.{Ordering}
use Rattle.std.specs.declared.cmp.Ordering.TheVariants.{Less, Equal, Greater}
use Rattle.list_lemmas.proofs.Sums.{map_map, map_same}
use Rattle.list_lemmas.proofs.Each.{all_then}
use Rattle.list_lemmas.proofs.Tests.{by_test as bool_cases}
use Rattle.profile_model.specs.Laws.{TellsApart}
use Rattle.profile_model.specs.Profile.{capped}
use Rattle.profile_model.specs.Ways.{beginnings, is_front}
use Rattle.profile_lists.proofs.FrontLemmas.{lists_tell_apart, front_not_behind, fresh, fresh_is_drop, fresh_are_fronts, fresh_are_no_fronts, beginnings_are_fronts, fronts, fronts_above, fronts_are_ordered, Ascending, between_has_front}
use Rattle.profile_lists.proofs.OrderLemmas.{steps_tell_apart}
use Rattle.profile_lists.specs.Rows.{shared, same_step, leads_to, count_below, total_of, sums_of, rows_along, rows_behind, first_way, padded, raised, IsRowOf, ways_of, AreRowsOf}
use Rattle.profile_lists.specs.Ways.{step_cmp, way_cmp}
use Rattle.profile_lists.specs.declared.item.Item.{Item}
use Rattle.profile_lists.specs.declared.item.Step.{Step}
use Rattle.profile_lists.specs.declared.rows.Row.{Row}

-- an item more, whose way begins so or not
count_with : (item : Item) (items : List Item) (x : List Step) → leads_to x item ≡ true → count_below (item ∷ items) x ≡ item.count + count_below items x
count_with item items x h =
    ap (λ b. sum_by (λ i. i.count) (cond b (item ∷ filter (leads_to x) items) (filter (leads_to x) items))) h
    ∙ sum_by-cons (λ i. i.count) item (filter (leads_to x) items)

count_without : (item : Item) (items : List Item) (x : List Step) → leads_to x item ≡ false → count_below (item ∷ items) x ≡ count_below items x
count_without item items x h = ap (λ b. sum_by (λ i. i.count) (cond b (item ∷ filter (leads_to x) items) (filter (leads_to x) items))) h

count_of_none : (items : List Item) (x : List Step) → AllByRecursion (λ i. leads_to x i ≡ false) items → count_below items x ≡ 0
count_of_none [] x none = refl
count_of_none (item ∷ items) x none = count_without item items x none.0 ∙ count_of_none items x none.1

cap_twice : (m c s : ℕ) → min (c + s) m ≡ min (min s m + c) m
cap_twice m c s = omega arith

cap_zero : (m : ℕ) → min 0 m ≡ 0
cap_zero m = omega arith

zeros : {S : Type 0} (f : S → ℕ) (xs : List S) → AllByRecursion (λ x. f x ≡ 0) xs → map f xs ≡ replicate (length xs) 0
zeros f [] all = refl
zeros f (x ∷ xs) all = λ i. all.0 i ∷ zeros f xs all.1 i

length-beginnings : {T : Type 0} (w : List T) → length (beginnings w) ≡ length w
length-beginnings [] = refl
length-beginnings (s ∷ w) = ap suc (length-map (beginnings w) (λ x. s ∷ x) ∙ length-beginnings w)

take-map-own : {S T : Type 0} (f : S → T) (k : ℕ) (xs : List S) → take k (map f xs) ≡ map f (take k xs)
take-map-own f zero xs = refl
take-map-own f (suc k) [] = refl
take-map-own f (suc k) (x ∷ xs) = ap (λ ys. f x ∷ ys) (take-map-own f k xs)

-- the beginnings that two lists share
shared_beginnings : {T : Type 0} (cmp : T → T → Ordering) → TellsApart cmp → (v w : List T) → take (shared (eq_by_cmp cmp) v w) (beginnings w) ≡ take (shared (eq_by_cmp cmp) v w) (beginnings v)
shared_beginnings cmp o [] w = refl
shared_beginnings cmp o (s ∷ a) [] = refl
shared_beginnings cmp o (s ∷ a) (t ∷ b) =
    elim (cmp s t) as (λ r. cmp s t ≡ r → take (cond (is_eq r) (suc (shared (eq_by_cmp cmp) a b)) 0) (beginnings (t ∷ b)) ≡ take (cond (is_eq r) (suc (shared (eq_by_cmp cmp) a b)) 0) (beginnings (s ∷ a))) [
      | Less ↦ λ _. refl
      | Equal ↦ λ e.
          let here : t ≡ s = sym (o.apart s t e) in
          let k = shared (eq_by_cmp cmp) a b in
          let rest : take k (map (λ x. t ∷ x) (beginnings b)) ≡ take k (map (λ x. s ∷ x) (beginnings a)) =
          take-map-own (λ x. t ∷ x) k (beginnings b) ∙ ap (map (λ x. t ∷ x)) (shared_beginnings cmp o a b) ∙ ap (λ z. map (λ x. z ∷ x) (take k (beginnings a))) here ∙ sym (take-map-own (λ x. s ∷ x) k (beginnings a)) in
          λ i. (here i ∷ []) ∷ rest i
      | Greater ↦ λ _. refl
    ] refl

-- nothing behind a list in order comes before it
ascending_all : (w : List Step) (items : List Item) → Ascending step_cmp w (ways_of items) → AllByRecursion (λ i. is_gt (way_cmp w i.way.items) ≡ false) items
ascending_all w [] up = tt
ascending_all w (item ∷ items) up = (
  up.0,
  all_then (λ i. is_gt (way_cmp item.way.items i.way.items) ≡ false) (λ i. is_gt (way_cmp w i.way.items) ≡ false)
      (λ i h. upto (lists_tell_apart step_cmp steps_tell_apart).total w item.way.items i.way.items up.0 h) items (ascending_all item.way.items items up.1),
)

-- a beginning that the item behind has not, no item behind has
later_lack : (w v : List Step) (x : List Step) (items : List Item) → is_front same_step x w ≡ true → is_front same_step x v ≡ false → is_gt (way_cmp w v) ≡ false → AllByRecursion (λ i. is_gt (way_cmp v i.way.items) ≡ false) items → AllByRecursion (λ i. leads_to x i ≡ false) items
later_lack w v x [] fw fv wv up = tt
later_lack w v x (item ∷ items) fw fv wv up = (
  bool_cases (leads_to x item) (λ h. absurd (true≢false (sym (between_has_front step_cmp steps_tell_apart x w v item.way.items fw h wv up.0) ∙ fv))) (λ h. h),
  later_lack w v x items fw fv wv up.1,
)

not_behind_itself : (w : List Step) → is_gt (way_cmp w w) ≡ false
not_behind_itself w = ap is_gt (tied_itself (lists_tell_apart step_cmp steps_tell_apart).total w)

all_and : {T : Type 0} (P Q R : T → Type 0) → ((x : T) → P x → Q x → R x) → (xs : List T) → AllByRecursion P xs → AllByRecursion Q xs → AllByRecursion R xs
all_and P Q R f [] p q = tt
all_and P Q R f (x ∷ xs) p q = (f x p.0 q.0, all_and P Q R f xs p.1 q.1)

pad_length : (n k m : ℕ) → m + k ≡ n → n - k ≡ m
pad_length n k m e = omega arith

-- the totals of an item's beginnings over the items behind it
totals_behind : (w : List Step) (items : List Item) → Ascending step_cmp w (ways_of items) → map (total_of items) (beginnings w) ≡ padded (length w) (take (shared same_step (first_way items) w) (sums_of items))
totals_behind w [] up =
    zeros (total_of []) (beginnings w) (all_then (λ x. is_front same_step x w ≡ true) (λ x. total_of [] x ≡ 0) (λ x _. cap_zero (2 ^ 64 - 1)) (beginnings w) (beginnings_are_fronts step_cmp steps_tell_apart.total w))
    ∙ ap (λ n. replicate n 0) (length-beginnings w ∙ sym (pad_length (length w) 0 (length w) (omega arith)))
totals_behind w (item ∷ items) up =
    let v = item.way.items in
    let k = shared same_step v w in
    let T = total_of (item ∷ items) in
    let front : map T (take k (beginnings w)) ≡ take k (map T (beginnings v)) = ap (map T) (shared_beginnings step_cmp steps_tell_apart v w) ∙ sym (take-map-own T k (beginnings v)) in
    let none : AllByRecursion (λ x. T x ≡ 0) (fresh same_step v w) =
    all_and (λ x. is_front same_step x w ≡ true) (λ x. is_front same_step x v ≡ false) (λ x. T x ≡ 0)
    (λ x fw fv. ap capped (count_of_none (item ∷ items) x (later_lack w v x (item ∷ items) fw fv up.0 (not_behind_itself v, ascending_all v items up.1))) ∙ cap_zero (2 ^ 64 - 1))
    (fresh same_step v w) (fresh_are_fronts step_cmp steps_tell_apart.total v w) (fresh_are_no_fronts step_cmp steps_tell_apart.total v w) in
    let split : map T (beginnings w) ≡ map T (take k (beginnings w)) ++ map T (drop k (beginnings w)) = ap (map T) (sym (take-append-drop k (beginnings w))) ∙ map-append T (take k (beginnings w)) (drop k (beginnings w)) in
    let behind : map T (drop k (beginnings w)) ≡ replicate (length (drop k (beginnings w))) 0 = ap (map T) (fresh_is_drop same_step v w) ∙ zeros T (fresh same_step v w) none ∙ ap (λ xs. replicate (length xs) 0) (sym (fresh_is_drop same_step v w)) in
    let lengths : length (drop k (beginnings w)) + length (take k (map T (beginnings v))) ≡ length w =
    omega (arith, ap length front, length-map (take k (beginnings w)) T, length-append (take k (beginnings w)) (drop k (beginnings w)), ap length (take-append-drop k (beginnings w)), length-beginnings w) in
    split ∙ (λ i. front i ++ behind i)
    ∙ ap (λ n. take k (map T (beginnings v)) ++ replicate n 0) (sym (pad_length (length w) (length (take k (map T (beginnings v)))) (length (drop k (beginnings w))) lengths))

-- from the totals of the item behind to those of an item
pub sums_step : (item : Item) (items : List Item) → Ascending step_cmp item.way.items (ways_of items) → sums_of (item ∷ items) ≡ raised item.count (padded (length item.way.items) (take (shared same_step (first_way items) item.way.items) (sums_of items)))
sums_step item items up =
    let w = item.way.items in
    let raise : ℕ → ℕ = λ n. capped (n + item.count) in
    map_same (total_of (item ∷ items)) (λ x. raise (total_of items x)) (beginnings w)
    (all_then (λ x. is_front same_step x w ≡ true) (λ x. total_of (item ∷ items) x ≡ raise (total_of items x)) (λ x h. ap capped (count_with item items x h) ∙ cap_twice (2 ^ 64 - 1) item.count (count_below items x)) (beginnings w) (beginnings_are_fronts step_cmp steps_tell_apart.total w))
    ∙ sym (map_map raise (total_of items) (beginnings w))
    ∙ ap (map raise) (totals_behind w items up)

pub length-sums : (item : Item) (items : List Item) → length (sums_of (item ∷ items)) ≡ length item.way.items
length-sums item items = length-map (beginnings item.way.items) (total_of (item ∷ items)) ∙ length-beginnings item.way.items

-- the rows along a way
record IsAlong (item : Item) (depth : ℕ) (T : List Step → ℕ) (x : List Step) (row : Row) : Type 0 where
  at : suc row.depth ≡ depth + length x
  last : last_or None x ≡ Some row.step
  total : row.total ≡ T x
  count : row.count ≡ item.count
  key : row.key ≡ item.key

last_goes_on : (s t : Step) (x : List Step) → last_or None x ≡ Some t → last_or (Some s) x ≡ Some t
last_goes_on s t [] e = cc
last_goes_on s t (y ∷ x) e = e

zip_map : {A B C : Type 0} (P : A → C → Type 0) (Q : B → C → Type 0) (f : A → B) → ((x : A) (z : C) → P x z → Q (f x) z) → (xs : List A) (zs : List C) → AllZip P xs zs → AllZip Q (map f xs) zs
zip_map P Q f g [] [] all = tt
zip_map P Q f g [] (z ∷ zs) all = all
zip_map P Q f g (x ∷ xs) [] all = all
zip_map P Q f g (x ∷ xs) (z ∷ zs) all = (g x z all.0, zip_map P Q f g xs zs all.1)

one_deeper : (d n r : ℕ) → suc r ≡ suc d + n → suc r ≡ d + suc n
one_deeper d n r e = omega arith

first_deep : (d : ℕ) → suc d ≡ d + 1
first_deep d = omega arith

along : (item : Item) (depth : ℕ) (w : List Step) (T : List Step → ℕ) → AllZip (IsAlong item depth T) (beginnings w) (rows_along item depth w (map T (beginnings w)))
along item depth [] T = tt
along item depth (s ∷ w) T = (
  record { at = first_deep depth; last = refl; total = refl; count = refl; key = refl },
  zip_map (IsAlong item (suc depth) (λ x. T (s ∷ x))) (IsAlong item depth T) (λ x. s ∷ x)
      (λ x row h. record { at = one_deeper depth (length x) row.depth h.at; last = last_goes_on s row.step x h.last; total = h.total; count = h.count; key = h.key })
      (beginnings w) (rows_along item (suc depth) w (map T (map (λ x. s ∷ x) (beginnings w))))
      (subst (λ ns. AllZip (IsAlong item (suc depth) (λ x. T (s ∷ x))) (beginnings w) (rows_along item (suc depth) w ns)) (sym (map_map T (λ x. s ∷ x) (beginnings w))) (along item (suc depth) w (λ x. T (s ∷ x)))),
)

zip_drop : {A C : Type 0} (P : A → C → Type 0) (k : ℕ) (xs : List A) (zs : List C) → AllZip P xs zs → AllZip P (drop k xs) (drop k zs)
zip_drop P zero xs zs all = all
zip_drop P (suc k) [] [] all = tt
zip_drop P (suc k) [] (z ∷ zs) all = absurd all
zip_drop P (suc k) (x ∷ xs) [] all = absurd all
zip_drop P (suc k) (x ∷ xs) (z ∷ zs) all = zip_drop P k xs zs all.1

zip_and : {A C : Type 0} (P : A → C → Type 0) (Q : A → Type 0) (R : A → C → Type 0) → ((x : A) (z : C) → P x z → Q x → R x z) → (xs : List A) (zs : List C) → AllZip P xs zs → AllByRecursion Q xs → AllZip R xs zs
zip_and P Q R f [] [] all some = tt
zip_and P Q R f [] (z ∷ zs) all some = all
zip_and P Q R f (x ∷ xs) [] all some = all
zip_and P Q R f (x ∷ xs) (z ∷ zs) all some = (f x z all.0 some.0, zip_and P Q R f xs zs all.1 some.1)

zip_append : {A C : Type 0} (P : A → C → Type 0) (xs ys : List A) (us vs : List C) → AllZip P xs us → AllZip P ys vs → AllZip P (xs ++ ys) (us ++ vs)
zip_append P [] ys [] vs all others = others
zip_append P [] ys (u ∷ us) vs all others = absurd all
zip_append P (x ∷ xs) ys [] vs all others = absurd all
zip_append P (x ∷ xs) ys (u ∷ us) vs all others = (all.0, zip_append P xs ys us vs all.1 others)

-- what comes behind a way does not begin it
behind_is_no_front : (w x : List Step) → way_cmp w x ≡ Less → is_front same_step x w ≡ false
behind_is_no_front w x less =
    bool_cases (is_front same_step x w)
    (λ h. absurd (true≢false (sym (ap is_gt ((lists_tell_apart step_cmp steps_tell_apart).total.antisymm x w ∙ ap ordering_reverse less)) ∙ front_not_behind step_cmp x w h)))
    (λ h. h)

rows_are_behind : (before : List Step) (items : List Item) → Ascending step_cmp before (ways_of items) → AllZip (IsRowOf items) (fronts same_step before (ways_of items)) (rows_behind before items)
rows_are_behind before [] up = tt
rows_are_behind before (item ∷ items) up =
    let w = item.way.items in
    let k = shared same_step before w in
    let T = total_of (item ∷ items) in
    let own : AllZip (IsRowOf (item ∷ items)) (beginnings w) (rows_along item 0 w (map T (beginnings w))) =
    zip_and (IsAlong item 0 T) (λ x. is_front same_step x w ≡ true) (IsRowOf (item ∷ items))
    (λ x row h f. record { depth = h.at ∙ omega arith; last = h.last; total = h.total; told = inl (record { leads = f; count = h.count; key = h.key }) })
    (beginnings w) (rows_along item 0 w (map T (beginnings w))) (along item 0 w T) (beginnings_are_fronts step_cmp steps_tell_apart.total w) in
    let fresh_own : AllZip (IsRowOf (item ∷ items)) (fresh same_step before w) (drop k (rows_along item 0 w (map T (beginnings w)))) =
    subst (λ xs. AllZip (IsRowOf (item ∷ items)) xs (drop k (rows_along item 0 w (map T (beginnings w))))) (fresh_is_drop same_step before w) (zip_drop (IsRowOf (item ∷ items)) k (beginnings w) (rows_along item 0 w (map T (beginnings w))) own) in
    let others : AllZip (IsRowOf (item ∷ items)) (fronts same_step w (ways_of items)) (rows_behind w items) =
    zip_and (IsRowOf items) (λ x. way_cmp w x ≡ Less) (IsRowOf (item ∷ items))
    (λ x row h less. record { depth = h.depth; last = h.last; total = h.total ∙ sym (ap capped (count_without item items x (behind_is_no_front w x less))); told = inr h.told })
    (fronts same_step w (ways_of items)) (rows_behind w items) (rows_are_behind w items up.1) (fronts_above step_cmp steps_tell_apart.total w (ways_of items) up.1) in
    zip_append (IsRowOf (item ∷ items)) (fresh same_step before w) (fronts same_step w (ways_of items)) (drop k (rows_along item 0 w (map T (beginnings w)))) (rows_behind w items) fresh_own others

pub are_rows : (items : List Item) → Ascending step_cmp [] (ways_of items) → AreRowsOf items (rows_behind [] items)
are_rows items up =
    subst (λ xs. AllZip (IsRowOf items) xs (rows_behind [] items)) (fronts_are_ordered step_cmp steps_tell_apart (ways_of items) up) (rows_are_behind [] items up)
