-- Lists: what stands in them, sums over them, and their orders.
use Rattle.std.proofs.Common.{◌≡◌, ◌⊎◌, ◌≤◌, ◌<◌, ℕ, zero, suc, ◌+◌, ◌==◌, Bool, true, false, cond, ◌||◌, List, [], ◌∷◌, ◌++◌, map, filter, length, get_or, sum_by, Option, None, Some, refl, sym, ap, subst, ◌∙◌, inl, inr, arith, add-zero, zero-add, IsPermutation, Contains}
use Rattle.std.proofs.lemmas.Bool.{true≢false}
use Rattle.std.proofs.lemmas.Bool.Decides.{nat_tests}
use Rattle.std.proofs.lemmas.List.{map-append}
use Rattle.std.proofs.lemmas.List.Folds.{list_any-append}
use Rattle.std.proofs.lemmas.List.Sorted.{Contains-permutation, IsPermutation-sym}
use Rattle.std.proofs.lemmas.List.Sums.{sum_by-cons}
use Rattle.std.specs.List.{AllByRecursion, cons_option, filter_map as kept_of, flat_map, list_any, range_with_len}
use Rattle.std.specs.declared.cmp.Ordering.{Ordering}
use Rattle.std.specs.declared.cmp.Ordering.TheVariants.{Less, Equal, Greater}
use Rattle.profile_model.specs.Laws.{TellsApart, has}
use Rattle.profile_model.specs.Orders.{ordered, placed, with_item}
use Rattle.profile_model.specs.Ways.{beginnings}
pub use Rattle.profile_model.proofs.StepLemmas.{and_first, and_second, and_both, bool_same, nat_same, nat_refl}
pub use Rattle.profile_model.proofs.OrderedLemmas.{all_ordered}
use Rattle.profile_model.proofs.OrderedLemmas.{ordered_is_in_order, only_ordered_is_in_order}
pub use Rattle.list_lemmas.proofs.Each.{all_append}
pub use Rattle.list_lemmas.proofs.Tests.{by_test as bool_cases}
pub use Rattle.list_lemmas.proofs.Sums.{sum_passing as sum_filter, sum_same, map_same, map_map}
pub use Rattle.list_lemmas.proofs.Among.{Among, among_right, among_left, among_either, among_map, among_map_back, among_filter, among_filter_back, all_among, among_all, part_of_sum}
pub use Rattle.std.proofs.lemmas.Bool.{or_left, or_right}
pub use Rattle.profile_laws.proofs.TotalLemmas.{among_from_has as has_among, has_from_among as among_has, not_among_above}

-- where neither holds the first does not
pub or_first : (a b : Bool) → (a || b) ≡ false → a ≡ false
or_first true b e = e
or_first false b e = refl

-- where the first does not hold the second does
pub or_other : (a b : Bool) → (a || b) ≡ true → a ≡ false → b ≡ true
or_other true b e f = absurd (true≢false f)
or_other false b e f = e

pub all_places : {T : Type 0} (P : T → Type 0) (xs : List T) → AllByRecursion P xs → (k : ℕ) (d : T) → k < length xs → P (get_or xs k d)
all_places P [] all k d h = absurd (omega arith)
all_places P (x ∷ xs) all zero d h = all.0
all_places P (x ∷ xs) all (suc k) d h = all_places P xs all.1 k d (omega arith)

among_place : {T : Type 0} (x : T) (xs : List T) → Among x xs → Contains xs x
among_place x [] h = absurd h
among_place {T} x (y ∷ xs) h = elim h as (λ _. Contains (y ∷ xs) x) [
  | inl e ↦ (0, omega arith, sym e)
  | inr r ↦ let b = among_place x xs r in (suc b.0, omega (arith, b.1), b.2)
]

place_among : {T : Type 0} (x : T) (xs : List T) (i : ℕ) → i < length xs → get_or xs i x ≡ x → Among x xs
place_among x [] i h e = absurd (omega arith)
place_among x (y ∷ xs) zero h e = inl (sym e)
place_among x (y ∷ xs) (suc i) h e = inr (place_among x xs i (omega arith) e)

pub among_permuted : {T : Type 0} (x : T) (xs ys : List T) → IsPermutation xs ys → Among x ys → Among x xs
among_permuted x xs ys p h =
    let there : Contains xs x = Contains-permutation ys xs x (IsPermutation-sym xs ys p) (among_place x ys h) in
    place_among x xs there.0 there.1 there.2

-- what is kept of items
kept_here : {A B : Type 0} (f : A → Option B) (y : B) (x : A) (xs : List A) (o : Option B) → f x ≡ o → (Among y (kept_of f xs) → (z : A) × (Among z xs) × (f z ≡ Some y))
    → Among y (cons_option o (kept_of f xs)) → (z : A) × (Among z (x ∷ xs)) × (f z ≡ Some y)
kept_here f y x xs None e further h = let found = further h in (found.0, inr found.1, found.2)
kept_here {A} f y x xs (Some b) e further h = elim h as (λ _. (z : A) × (Among z (x ∷ xs)) × (f z ≡ Some y)) [
  | inl q ↦ (x, inl refl, e ∙ ap (λ z. Some z) (sym q))
  | inr r ↦ let found = further r in (found.0, inr found.1, found.2)
]

pub kept_from : {A B : Type 0} (f : A → Option B) (y : B) (xs : List A) → Among y (kept_of f xs) → (x : A) × (Among x xs) × (f x ≡ Some y)
kept_from f y [] h = absurd h
kept_from f y (x ∷ xs) h = kept_here f y x xs (f x) refl (kept_from f y xs) h

pub kept_among : {A B : Type 0} (f : A → Option B) (x : A) (y : B) (xs : List A) → Among x xs → f x ≡ Some y → Among y (kept_of f xs)
kept_among f x y [] h e = absurd h
kept_among {A} {B} f x y (z ∷ xs) h e = elim h as (λ _. Among y (cons_option (f z) (kept_of f xs))) [
  | inl q ↦ subst (λ o. Among y (cons_option o (kept_of f xs))) (sym e ∙ ap f q) (inl refl)
  | inr r ↦ further (f z) (kept_among f x y xs r e)
]
  where
    further : (o : Option B) → Among y (kept_of f xs) → Among y (cons_option o (kept_of f xs))
    further None g = g
    further (Some b) g = inr g

-- numbers from the first on
pub among_range : (a n x : ℕ) → Among x (range_with_len a n) → (a ≤ x) × (x < a + n)
among_range a zero x h = absurd h
among_range a (suc n) x h = elim h as (λ _. (a ≤ x) × (x < a + suc n)) [
  | inl e ↦ (omega arith, omega arith)
  | inr r ↦ let b = among_range (a + 1) n x r in (omega (arith, b.0), omega (arith, b.1))
]

pub range_among : (a n x : ℕ) → a ≤ x → x < a + n → Among x (range_with_len a n)
range_among a zero x h g = absurd (omega arith)
range_among a (suc n) x h g = elim (here_or_further a x h) as (λ _. (x ≡ a) ⊎ Among x (range_with_len (a + 1) n)) [
  | inl e ↦ inl e
  | inr f ↦ inr (range_among (a + 1) n x f (omega arith))
]
  where
    here_or_further : (a x : ℕ) → a ≤ x → (x ≡ a) ⊎ (a + 1 ≤ x)
    here_or_further a x h = grind arith

pub filter_map : {S T : Type 0} (p : T → Bool) (f : S → T) (xs : List S) → filter p (map f xs) ≡ map f (filter (λ x. p (f x)) xs)
filter_map p f [] = refl
filter_map p f (x ∷ xs) =
    elim (p (f x)) as (λ b. cond b (f x ∷ filter p (map f xs)) (filter p (map f xs)) ≡ map f (cond b (x ∷ filter (λ y. p (f y)) xs) (filter (λ y. p (f y)) xs))) [
      | true ↦ ap (λ ys. f x ∷ ys) (filter_map p f xs)
      | false ↦ filter_map p f xs
    ]

pub sum_map : {S T : Type 0} (f : T → ℕ) (g : S → T) (xs : List S) → sum_by f (map g xs) ≡ sum_by (λ x. f (g x)) xs
sum_map f g [] = refl
sum_map f g (x ∷ xs) = sum_by-cons f (g x) (map g xs) ∙ ap (λ n. f (g x) + n) (sum_map f g xs) ∙ sym (sum_by-cons (λ y. f (g y)) x xs)

pub sum_none : {T : Type 0} (f : T → ℕ) (xs : List T) → AllByRecursion (λ x. f x ≡ 0) xs → sum_by f xs ≡ 0
sum_none f [] all = refl
sum_none f (x ∷ xs) all = sum_by-cons f x xs ∙ (λ i. all.0 i + sum_none f xs all.1 i)

pub sum_at_most : {T : Type 0} (f g : T → ℕ) (xs : List T) → AllByRecursion (λ x. f x ≤ g x) xs → sum_by f xs ≤ sum_by g xs
sum_at_most f g [] all = omega arith
sum_at_most f g (x ∷ xs) all = omega (arith, sum_by-cons f x xs, sum_by-cons g x xs, all.0, sum_at_most f g xs all.1)

pub some_in_sum : {T : Type 0} (f : T → ℕ) (xs : List T) → 0 < sum_by f xs → (x : T) × (Among x xs) × (0 < f x)
some_in_sum f [] h = absurd (omega arith)
some_in_sum {T} f (x ∷ xs) h =
    elim (zero_or_more (f x)) as (λ _. (y : T) × (Among y (x ∷ xs)) × (0 < f y)) [
      | inl z ↦ let b = some_in_sum f xs (omega (arith, z, sum_by-cons f x xs)) in (b.0, inr b.1, b.2)
      | inr m ↦ (x, inl refl, m)
    ]
  where
    zero_or_more : (n : ℕ) → (n ≡ 0) ⊎ (0 < n)
    zero_or_more n = grind arith

-- one number of a range counts
none_below : (f : ℕ → ℕ) (k a n : ℕ) → k < a → sum_by (λ j. cond (j == k) (f j) 0) (range_with_len a n) ≡ 0
none_below f k a zero h = refl
none_below f k a (suc n) h =
    let other : (a == k) ≡ false = grind (arith, nat_tests) in
    sum_by-cons (λ j. cond (j == k) (f j) 0) a (range_with_len (a + 1) n) ∙ (λ i. cond (other i) (f a) 0 + none_below f k (a + 1) n (omega arith) i)

pub one_of_range : (f : ℕ → ℕ) (k a n : ℕ) → a ≤ k → k < a + n → sum_by (λ j. cond (j == k) (f j) 0) (range_with_len a n) ≡ f k
one_of_range f k a zero h g = absurd (omega arith)
one_of_range f k a (suc n) h g =
    bool_cases (a == k)
    (λ e.
    let same : a ≡ k = nat_same a k e in
    sum_by-cons (λ j. cond (j == k) (f j) 0) a (range_with_len (a + 1) n)
    ∙ (λ i. cond (e i) (f (same i)) 0 + none_below f k (a + 1) n (omega arith) i) ∙ add-zero (f k))
    (λ e.
    let further : a + 1 ≤ k = grind (arith, nat_tests) in
    sum_by-cons (λ j. cond (j == k) (f j) 0) a (range_with_len (a + 1) n)
    ∙ (λ i. cond (e i) (f a) 0 + one_of_range f k (a + 1) n further (omega arith) i) ∙ zero-add (f k))

-- lists in order
with_item_map : {S T : Type 0} (cmp : T → T → Ordering) (f : S → T) (x : S) (xs : List S) → with_item cmp (f x) (map f xs) ≡ map f (with_item (λ a b. cmp (f a) (f b)) x xs)
with_item_map cmp f x [] = refl
with_item_map cmp f x (y ∷ xs) =
    elim (cmp (f x) (f y)) as (λ r. placed r (f x) (f y) (map f xs) (with_item cmp (f x) (map f xs)) ≡ map f (placed r x y xs (with_item (λ a b. cmp (f a) (f b)) x xs))) [
      | Less ↦ refl
      | Equal ↦ refl
      | Greater ↦ ap (λ more. f y ∷ more) (with_item_map cmp f x xs)
    ]

pub ordered_map : {S T : Type 0} (cmp : T → T → Ordering) (f : S → T) (xs : List S) → ordered cmp (map f xs) ≡ map f (ordered (λ a b. cmp (f a) (f b)) xs)
ordered_map cmp f [] = refl
ordered_map cmp f (x ∷ xs) = ap (with_item cmp (f x)) (ordered_map cmp f xs) ∙ with_item_map cmp f x (ordered (λ a b. cmp (f a) (f b)) xs)

with_item_same : {T : Type 0} (P : T → Type 0) (c d : T → T → Ordering) → ((x y : T) → P x → P y → c x y ≡ d x y) → (x : T) (xs : List T) → P x → AllByRecursion P xs → with_item c x xs ≡ with_item d x xs
with_item_same P c d same x [] px all = refl
with_item_same P c d same x (y ∷ xs) px all = λ i. placed (same x y px all.0 i) x y xs (with_item_same P c d same x xs px all.1 i)

pub ordered_same : {T : Type 0} (P : T → Type 0) (c d : T → T → Ordering) → ((x y : T) → P x → P y → c x y ≡ d x y) → (xs : List T) → AllByRecursion P xs → ordered c xs ≡ ordered d xs
ordered_same P c d same [] all = refl
ordered_same P c d same (x ∷ xs) all =
    with_item_same P c d same x (ordered c xs) all.0 (all_ordered P c xs all.1) ∙ ap (with_item d x) (ordered_same P c d same xs all.1)

-- lists with the same items are in order alike
pub ordered_alike : {T : Type 0} (cmp : T → T → Ordering) → TellsApart cmp → (xs ys : List T) → ((z : T) → has cmp z xs ≡ has cmp z ys) → ordered cmp xs ≡ ordered cmp ys
ordered_alike cmp t xs ys same =
    let is = ordered_is_in_order cmp t xs in
    only_ordered_is_in_order cmp t ys (ordered cmp xs) (record { ascending = is.ascending; same = λ z. is.same z ∙ same z })

pub any_flat : {S T : Type 0} (p : T → Bool) (f : S → List T) (xs : List S) → list_any p (flat_map f xs) ≡ list_any (λ x. list_any p (f x)) xs
any_flat p f [] = refl
any_flat p f (x ∷ xs) = list_any-append p (f x) (flat_map f xs) ∙ ap (λ b. list_any p (f x) || b) (any_flat p f xs)

pub any_map : {S T : Type 0} (p : T → Bool) (f : S → T) (xs : List S) → list_any p (map f xs) ≡ list_any (λ x. p (f x)) xs
any_map p f [] = refl
any_map p f (x ∷ xs) = ap (λ b. p (f x) || b) (any_map p f xs)

pub any_among : {T : Type 0} (p : T → Bool) (xs : List T) → list_any p xs ≡ true → (x : T) × (Among x xs) × (p x ≡ true)
any_among p [] e = absurd (true≢false (sym e))
any_among {T} p (x ∷ xs) e =
    elim (p x) as (λ b. p x ≡ b → (b || list_any p xs) ≡ true → (y : T) × (Among y (x ∷ xs)) × (p y ≡ true)) [
      | true ↦ λ q _. (x, inl refl, q)
      | false ↦ λ _ g. let b = any_among p xs g in (b.0, inr b.1, b.2)
    ] refl e

pub among_any : {T : Type 0} (p : T → Bool) (x : T) (xs : List T) → Among x xs → p x ≡ true → list_any p xs ≡ true
among_any p x [] h e = absurd h
among_any p x (y ∷ xs) h e = elim h as (λ _. (p y || list_any p xs) ≡ true) [
  | inl q ↦ ap (λ b. b || list_any p xs) (ap p (sym q) ∙ e)
  | inr r ↦ elim (p y) as (λ b. (b || list_any p xs) ≡ true) [ true ↦ refl | false ↦ among_any p x xs r e ]
]

-- lists that are told alike
pub any_alike : {S T : Type 0} (f : S → T) (p : T → Bool) (xs ys : List S) → ((s : S) → Among s xs → Among (f s) (map f ys)) → ((s : S) → Among s ys → Among (f s) (map f xs)) → list_any p (map f xs) ≡ list_any p (map f ys)
any_alike {S} {T} f p xs ys there back = bool_same (list_any p (map f xs)) (list_any p (map f ys)) (one_way xs ys there) (one_way ys xs back)
  where
    one_way : (xs ys : List S) → ((s : S) → Among s xs → Among (f s) (map f ys)) → list_any p (map f xs) ≡ true → list_any p (map f ys) ≡ true
    one_way xs ys there e =
        let one = any_among p (map f xs) e in
        let b = among_map_back f one.0 xs one.1 in
        among_any p one.0 (map f ys) (subst (λ v. Among v (map f ys)) (sym b.2) (there b.0 b.1)) one.2

-- beginnings
map_cons : {S T : Type 0} (f : S → T) (s : S) (xs : List (List S)) → map (λ x. f s ∷ x) (map (map f) xs) ≡ map (map f) (map (λ x. s ∷ x) xs)
map_cons f s [] = refl
map_cons f s (x ∷ xs) = ap (λ ys. (f s ∷ map f x) ∷ ys) (map_cons f s xs)

beginnings_map : {S T : Type 0} (f : S → T) (w : List S) → beginnings (map f w) ≡ map (map f) (beginnings w)
beginnings_map f [] = refl
beginnings_map f (s ∷ w) = ap (λ xs. (f s ∷ []) ∷ xs) (ap (map (λ x. f s ∷ x)) (beginnings_map f w) ∙ map_cons f s (beginnings w))

pub all_beginnings_map : {S T : Type 0} (f : S → T) (ws : List (List S)) → flat_map beginnings (map (map f) ws) ≡ map (map f) (flat_map beginnings ws)
all_beginnings_map f [] = refl
all_beginnings_map f (w ∷ ws) =
    (λ i. beginnings_map f w i ++ all_beginnings_map f ws i) ∙ sym (map-append (map f) (beginnings w) (flat_map beginnings ws))

-- lists that are beginnings of lists of such items have at least one item, and all are such
abbrev pub SomeAll : {T : Type 0} → (T → Type 0) → List T → Type 0
SomeAll P [] = ⊥
SomeAll P (x ∷ xs) = P x × AllByRecursion P xs

some_all : {T : Type 0} (P : T → Type 0) (xs : List T) → SomeAll P xs → AllByRecursion P xs
some_all P [] h = absurd h
some_all P (x ∷ xs) h = h

consed : {T : Type 0} (P : T → Type 0) (s : T) (xs : List (List T)) → P s → AllByRecursion (SomeAll P) xs → AllByRecursion (SomeAll P) (map (λ x. s ∷ x) xs)
consed P s [] ps all = tt
consed P s (x ∷ xs) ps all = ((ps, some_all P x all.0), consed P s xs ps all.1)

beginnings_all : {T : Type 0} (P : T → Type 0) (w : List T) → AllByRecursion P w → AllByRecursion (SomeAll P) (beginnings w)
beginnings_all P [] all = tt
beginnings_all P (s ∷ w) all = ((all.0, tt), consed P s (beginnings w) all.0 (beginnings_all P w all.1))

pub all_beginnings : {T : Type 0} (P : T → Type 0) (ws : List (List T)) → AllByRecursion (AllByRecursion P) ws → AllByRecursion (SomeAll P) (flat_map beginnings ws)
all_beginnings P [] all = tt
all_beginnings P (w ∷ ws) all = all_append (SomeAll P) (beginnings w) (flat_map beginnings ws) (beginnings_all P w all.0) (all_beginnings P ws all.1)
