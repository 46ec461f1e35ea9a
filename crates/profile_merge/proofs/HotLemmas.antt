-- Counts in order, the greatest first, and what they make up.
use Rattle.std.proofs.Common.{◌≡◌, ◌⊎◌, ℕ, zero, suc, ◌+◌, ◌*◌, ◌<◌, ◌≤◌, Bool, true, false, cond, List, [], ◌∷◌, ◌++◌, take, drop, length, get_or, filter, refl, sym, ap, subst, ◌∙◌, arith, inl, inr}
use Rattle.std.specs.Prelude.{codes, ◌&&◌, ◌-◌, ◌/◌, ◌%◌, nat_le, nat_lt, max, reverse, sum, sum_by, fold, IsPermutation, IsSorted}
use Rattle.std.specs.Ordering.{nat_cmp, is_lt}
use Rattle.std.specs.List.{AllByRecursion}
use Rattle.std.specs.List.Sorted.{IsPartitionPoint, IsPartitionedBy}
use Rattle.std.proofs.Math.Nat.{le-max_left, le-max_right, mul-add, mul_assoc, mul_comm, mul-le-mul_right, div-add-mod}
use Rattle.std.proofs.lemmas.List.{length-take, get_or_default, take_all}
use Rattle.std.proofs.lemmas.Bool.{cases_lt}
use Rattle.std.proofs.lemmas.Option.{same_Some}
use Rattle.std.specs.Prelude.{slice_get, Some}
use Rattle.std.proofs.lemmas.Grind.{reverse_onto}
use Rattle.std.proofs.lemmas.Bool.Decides.{nat_tests}
use Rattle.std.proofs.lemmas.List.Sums.{sum_by-cons, length-filter}
use Rattle.std.proofs.lemmas.List.Sorted.{sum_by-IsPermutation}
use Rattle.text_model.specs.Numbers.{decimal_text}
use Rattle.profile_model.specs.Summary.{greatest, at_least, covers, cutoff_text, least_hot}
use Rattle.profile_tree.proofs.ListLemmas.{all_append, sum_filter}
use Rattle.profile_merge.specs.Hot.{Descend, IsShare}

-- ---- the greatest of some numbers
max_least : (a b m : ℕ) → a ≤ m → b ≤ m → max a b ≤ m
max_least a b m h g = grind (arith, nat_tests)

fold_from : (a : ℕ) (xs : List ℕ) → fold max a xs ≡ max a (greatest xs)
fold_from a [] = grind (arith, nat_tests)
fold_from a (x ∷ xs) =
    let one = fold_from (max a x) xs in
    let other = fold_from (max 0 x) xs in
    grind (arith, nat_tests)

greatest-cons : (x : ℕ) (xs : List ℕ) → greatest (x ∷ xs) ≡ max x (greatest xs)
greatest-cons x xs = fold_from (max 0 x) xs ∙ ap (λ n. max n (greatest xs)) {x = max 0 x} {y = x} (grind (arith, nat_tests))

-- how many numbers pass a test and are above a bound
abbrev above : (ℕ → Bool) → ℕ → ℕ → ℕ
above p m x = cond (p x && nat_lt m x) 1 0

above_by : (b : Bool) (m x g : ℕ) (xs : List ℕ) → (greatest xs ≤ m → g ≡ 0) → greatest (cond b (x ∷ xs) xs) ≤ m → cond (b && nat_lt m x) 1 0 + g ≡ 0
above_by true m x g xs rest h =
    let whole = greatest-cons x xs in
    let left = le-max_left x (greatest xs) in
    let right = le-max_right x (greatest xs) in
    let none : nat_lt m x ≡ false = grind (arith, nat_tests) in
    (λ i. cond (none i) 1 0 + rest (omega arith) i)
above_by false m x g xs rest h = let e = rest h in omega arith

-- no number that passes is above a bound that the greatest is within
none_above : (p : ℕ → Bool) (m : ℕ) (xs : List ℕ) → greatest (filter p xs) ≤ m → sum_by (above p m) xs ≡ 0
none_above p m [] h = refl
none_above p m (x ∷ xs) h =
    sum_by-cons (above p m) x xs ∙ above_by (p x) m x (sum_by (above p m) xs) (filter p xs) (none_above p m xs) h

within_by : (b : Bool) (m x g : ℕ) (xs : List ℕ) → (g ≡ 0 → greatest xs ≤ m) → cond (b && nat_lt m x) 1 0 + g ≡ 0 → greatest (cond b (x ∷ xs) xs) ≤ m
within_by true m x g xs rest h =
    let whole = greatest-cons x xs in
    let parts : (x ≤ m) × (g ≡ 0) = by (nat_lt m x) refl h in
    let least = max_least x (greatest xs) m parts.0 (rest parts.1) in
    omega arith
  where
    by : (c : Bool) → nat_lt m x ≡ c → cond c 1 0 + g ≡ 0 → (x ≤ m) × (g ≡ 0)
    by true e k = absurd (omega arith)
    by false e k = (grind (arith, nat_tests), omega arith)
within_by false m x g xs rest h = rest (omega arith)

within : (p : ℕ → Bool) (m : ℕ) (xs : List ℕ) → sum_by (above p m) xs ≡ 0 → greatest (filter p xs) ≤ m
within p m [] h = omega arith
within p m (x ∷ xs) h =
    within_by (p x) m x (sum_by (above p m) xs) (filter p xs) (within p m xs) (sym (sum_by-cons (above p m) x xs) ∙ h)

-- the same numbers in another order
greatest_permuted : (p : ℕ → Bool) (xs ys : List ℕ) → IsPermutation xs ys → greatest (filter p xs) ≡ greatest (filter p ys)
greatest_permuted p xs ys same =
    let there = within p (greatest (filter p xs)) ys (sum_by-IsPermutation (above p (greatest (filter p xs))) xs ys same ∙ none_above p (greatest (filter p xs)) xs (omega arith)) in
    let back = within p (greatest (filter p ys)) xs (sym (sum_by-IsPermutation (above p (greatest (filter p ys))) xs ys same) ∙ none_above p (greatest (filter p ys)) ys (omega arith)) in
    omega arith

-- ---- sums of the numbers that are at least so large
abbrev kept : ℕ → ℕ → ℕ
kept least x = cond (nat_le least x) x 0

sum_kept : (least : ℕ) (xs : List ℕ) → sum (at_least least xs) ≡ sum_by (kept least) xs
sum_kept least xs = sum_filter (λ n. n) (nat_le least) xs

pub sum_permuted : (xs ys : List ℕ) → IsPermutation xs ys → sum ys ≡ sum xs
sum_permuted xs ys same = sum_by-IsPermutation (λ n. n) xs ys same

at_least_permuted : (least : ℕ) (xs ys : List ℕ) → IsPermutation xs ys → sum (at_least least ys) ≡ sum (at_least least xs)
at_least_permuted least xs ys same =
    sum_kept least ys ∙ sum_by-IsPermutation (kept least) xs ys same ∙ sym (sum_kept least xs)

lines_permuted : (least : ℕ) (xs ys : List ℕ) → IsPermutation xs ys → length (at_least least ys) ≡ length (at_least least xs)
lines_permuted least xs ys same =
    length-filter (nat_le least) ys ∙ sum_by-IsPermutation (λ n. cond (nat_le least n) 1 0) xs ys same ∙ sym (length-filter (nat_le least) xs)

covers_permuted : (xs ys : List ℕ) (cutoff least : ℕ) → IsPermutation xs ys → covers ys cutoff least ≡ covers xs cutoff least
covers_permuted xs ys cutoff least same =
    λ i. nat_le (cutoff * sum_permuted xs ys same i) (1000000 * at_least_permuted least xs ys same i)

least_hot_permuted : (xs ys : List ℕ) (cutoff : ℕ) → IsPermutation xs ys → least_hot ys cutoff ≡ least_hot xs cutoff
least_hot_permuted xs ys cutoff same =
    ap (λ p. greatest (filter p ys)) (λ i least. covers_permuted xs ys cutoff least same i)
    ∙ sym (greatest_permuted (covers xs cutoff) xs ys same)

all_pass : (xs : List ℕ) → filter (λ _. true) xs ≡ xs
all_pass [] = refl
all_pass (x ∷ xs) = ap (λ ys. x ∷ ys) (all_pass xs)

pub greatest_permuted_all : (xs ys : List ℕ) → IsPermutation xs ys → greatest ys ≡ greatest xs
greatest_permuted_all xs ys same =
    ap greatest (sym (all_pass ys)) ∙ sym (greatest_permuted (λ _. true) xs ys same) ∙ ap greatest (all_pass xs)

pub cutoff_permuted : (xs ys : List ℕ) (cutoff : ℕ) → IsPermutation xs ys → cutoff_text ys cutoff ≡ cutoff_text xs cutoff
cutoff_permuted xs ys cutoff same =
    let least = least_hot_permuted xs ys cutoff same in
    ap (λ n. line (least_hot ys cutoff) n) (lines_permuted (least_hot ys cutoff) xs ys same) ∙ ap (λ n. line n (length (at_least n xs))) least
  where
    line : ℕ → ℕ → List ℕ
    line least lines =
        codes "cutoff " ++ decimal_text cutoff ++ codes " least " ++ decimal_text least ++ codes " lines " ++ decimal_text lines ++ codes "\n"

-- ---- numbers in order
all_within : (x m : ℕ) (front : List ℕ) (y : ℕ) (back : List ℕ) → AllByRecursion (λ z. z ≤ x) (front ++ y ∷ back) → y ≤ x
all_within x m [] y back all = all.0
all_within x m (z ∷ front) y back all = all_within x m front y back all.1

-- the numbers up to one are at least that
front_kept : (front : List ℕ) (x : ℕ) (back : List ℕ) → Descend (front ++ x ∷ back) → sum front + x ≤ sum (at_least x (front ++ x ∷ back))
front_kept [] x back down = let here : nat_le x x ≡ true = grind (arith, nat_tests) in
    let whole = sum_by-cons (λ n. n) x (at_least x back) in
    let most : x ≤ sum (at_least x (x ∷ back)) = subst (λ b. x ≤ sum (cond b (x ∷ at_least x back) (at_least x back))) (sym here) (omega arith) in
    omega arith
front_kept (z ∷ front) x back down =
    let high : x ≤ z = all_within z 0 front x back down.0 in
    let here : nat_le x z ≡ true = grind (arith, nat_tests) in
    let rest = front_kept front x back down.1 in
    let first = sum_by-cons (λ n. n) z front in
    let whole = sum_by-cons (λ n. n) z (at_least x (front ++ x ∷ back)) in
    subst (λ b. sum (z ∷ front) + x ≤ sum (cond b (z ∷ at_least x (front ++ x ∷ back)) (at_least x (front ++ x ∷ back)))) (sym here) (omega arith)

none_kept : (x y : ℕ) (xs : List ℕ) → AllByRecursion (λ z. z ≤ x) xs → x < y → sum (at_least y xs) ≡ 0
none_kept x y [] all high = refl
none_kept x y (z ∷ xs) all high =
    let low : z ≤ x = all.0 in
    let out : nat_le y z ≡ false = grind (arith, nat_tests) in
    ap (λ b. sum (cond b (z ∷ at_least y xs) (at_least y xs))) out ∙ none_kept x y xs all.1 high

-- the numbers above one stand before it
above_front : (front : List ℕ) (x : ℕ) (back : List ℕ) (y : ℕ) → Descend (front ++ x ∷ back) → x < y → sum (at_least y (front ++ x ∷ back)) ≤ sum front
above_front [] x back y down high =
    let out : nat_le y x ≡ false = grind (arith, nat_tests) in
    let e = ap (λ b. sum (cond b (x ∷ at_least y back) (at_least y back))) out ∙ none_kept x y back down.0 high in
    omega arith
above_front (z ∷ front) x back y down high =
    let rest = above_front front x back y down.1 high in
    let first = sum_by-cons (λ n. n) z front in
    by (nat_le y z) (omega arith)
  where
    by : (b : Bool) → sum (at_least y (front ++ x ∷ back)) + z ≤ sum (z ∷ front)
        → sum (cond b (z ∷ at_least y (front ++ x ∷ back)) (at_least y (front ++ x ∷ back))) ≤ sum (z ∷ front)
    by true h = let whole = sum_by-cons (λ n. n) z (at_least y (front ++ x ∷ back)) in omega arith
    by false h = omega arith

-- ---- the least hot count
passing_above : (p : ℕ → Bool) (m : ℕ) (xs : List ℕ) → ((y : ℕ) → m < y → p y ≡ false) → sum_by (above p m) xs ≡ 0
passing_above p m [] fails = refl
passing_above p m (x ∷ xs) fails = sum_by-cons (above p m) x xs ∙ (λ i. by (nat_lt m x) refl i + passing_above p m xs fails i)
  where
    by : (b : Bool) → nat_lt m x ≡ b → cond {A = ℕ} (p x && b) 1 0 ≡ 0
    by true e = ap (λ c. cond {A = ℕ} (c && true) 1 0) (fails x (grind (arith, nat_tests)))
    by false e = none (p x)
      where
        none : (c : Bool) → cond {A = ℕ} (c && false) 1 0 ≡ 0
        none true = refl
        none false = refl

low_above : (p : ℕ → Bool) (m : ℕ) (xs : List ℕ) → AllByRecursion (λ z. z ≤ m) xs → sum_by (above p m) xs ≡ 0
low_above p m [] all = refl
low_above p m (x ∷ xs) all =
    let low : x ≤ m = all.0 in
    let out : nat_lt m x ≡ false = grind (arith, nat_tests) in
    sum_by-cons (above p m) x xs ∙ (λ i. (ap (λ b. cond {A = ℕ} (p x && b) 1 0) out ∙ none (p x)) i + low_above p m xs all.1 i)
  where
    none : (c : Bool) → cond {A = ℕ} (c && false) 1 0 ≡ 0
    none true = refl
    none false = refl

greatest_above : (p : ℕ → Bool) (front : List ℕ) (x : ℕ) (back : List ℕ) → p x ≡ true → x ≤ greatest (filter p (front ++ x ∷ back))
greatest_above p [] x back passes =
    let whole = greatest-cons x (filter p back) in
    let left = le-max_left x (greatest (filter p back)) in
    subst (λ b. x ≤ greatest (cond b (x ∷ filter p back) (filter p back))) (sym passes) (omega arith)
greatest_above p (z ∷ front) x back passes = by (p z) (greatest_above p front x back passes)
  where
    by : (b : Bool) → x ≤ greatest (filter p (front ++ x ∷ back)) → x ≤ greatest (cond b (z ∷ filter p (front ++ x ∷ back)) (filter p (front ++ x ∷ back)))
    by true h =
        let whole = greatest-cons z (filter p (front ++ x ∷ back)) in
        let right = le-max_right z (greatest (filter p (front ++ x ∷ back))) in
        omega arith
    by false h = h

-- the first number with which so many millionths are reached
pub least_hot_at : (front : List ℕ) (x : ℕ) (back : List ℕ) (cutoff : ℕ) → Descend (front ++ x ∷ back)
    → (length front ≡ 0) ⊎ (1000000 * sum front < cutoff * sum (front ++ x ∷ back)) → cutoff * sum (front ++ x ∷ back) ≤ 1000000 * (sum front + x)
    → least_hot (front ++ x ∷ back) cutoff ≡ x
least_hot_at front x back cutoff down before reached =
    let low = within p x all (none_more before) in
    let high = greatest_above p front x back covered in
    omega arith
  where
    all : List ℕ
    all = front ++ x ∷ back

    p : ℕ → Bool
    p = covers all cutoff

    covered : p x ≡ true
    covered = let more = front_kept front x back down in grind (arith, nat_tests)

    no_front : (f : List ℕ) → length f ≡ 0 → Descend (f ++ x ∷ back) → sum_by (above p x) (f ++ x ∷ back) ≡ 0
    no_front [] none d = low_above p x (x ∷ back) (omega arith, d.0)
    no_front (z ∷ f) none d = absurd (omega arith)

    none_more : (length front ≡ 0) ⊎ (1000000 * sum front < cutoff * sum all) → sum_by (above p x) all ≡ 0
    none_more (inl none) = no_front front none down
    none_more (inr short) =
        passing_above p x all (λ y high. let few = above_front front x back y down high in grind (arith, nat_tests))

-- where all of it is not reached there is nothing
pub least_hot_none : (xs : List ℕ) (cutoff : ℕ) → cutoff ≤ 1000000 → (length xs ≡ 0) ⊎ (1000000 * sum xs < cutoff * sum xs) → least_hot xs cutoff ≡ 0
least_hot_none [] cutoff low before = refl
least_hot_none (x ∷ xs) cutoff low (inl none) = absurd (omega arith)
least_hot_none (x ∷ xs) cutoff low (inr short) = let most = mul-le-mul_right (sum (x ∷ xs)) low in absurd (omega arith)

-- ---- the loop over the counts
pub cut_at : (xs : List ℕ) (i x : ℕ) → i < length xs → x ≡ get_or xs i x → xs ≡ take i xs ++ x ∷ drop (i + 1) xs
cut_at [] i x h e = absurd (omega arith)
cut_at (y ∷ xs) zero x h e = ap (λ z. z ∷ xs) (sym e)
cut_at (y ∷ xs) (suc i) x h e =
    let next : suc (i + 1) ≡ suc i + 1 = omega arith in
    ap (λ zs. y ∷ zs) (cut_at xs i x (omega arith) e) ∙ ap (λ n. (y ∷ take i xs) ++ x ∷ drop n (y ∷ xs)) next

pub least_hot_here : (xs : List ℕ) (i x cutoff : ℕ) → Descend xs → i < length xs → x ≡ get_or xs i x
    → (i ≡ 0) ⊎ (1000000 * sum (take i xs) < cutoff * sum xs) → cutoff * sum xs ≤ 1000000 * (sum (take i xs) + x) → least_hot xs cutoff ≡ x
least_hot_here xs i x cutoff down within is before reached =
    let cut = cut_at xs i x within is in
    let e : ◌≡◌ {A = List ℕ} (take i xs ++ x ∷ drop (i + 1) xs) xs = sym cut in
    subst (λ ys. least_hot ys cutoff ≡ x) e
    (least_hot_at (take i xs) x (drop (i + 1) xs) cutoff (subst Descend cut down)
    (started before)
    (subst (λ ys. cutoff * sum ys ≤ 1000000 * (sum (take i xs) + x)) cut reached))
  where
    started : (i ≡ 0) ⊎ (1000000 * sum (take i xs) < cutoff * sum xs) → (length (take i xs) ≡ 0) ⊎ (1000000 * sum (take i xs) < cutoff * sum (take i xs ++ x ∷ drop (i + 1) xs))
    started (inl first) = inl (let e = length-take i xs in omega arith)
    started (inr short) = inr (subst (λ ys. 1000000 * sum (take i xs) < cutoff * sum ys) (cut_at xs i x within is) short)

-- ---- numbers from a place on
pub lines_at : (xs : List ℕ) (least i : ℕ) → i ≤ length xs → ((k : ℕ) (d : ℕ) → k < i → nat_le least (get_or xs k d) ≡ true)
    → ((k : ℕ) (d : ℕ) → i ≤ k → k < length xs → nat_le least (get_or xs k d) ≡ false) → i ≡ length (at_least least xs)
lines_at [] least i short front back = omega arith
lines_at (x ∷ xs) least zero short front back =
    lines_at xs least 0 (omega arith) (λ k d h. absurd (omega arith)) (λ k d low h. back (suc k) d (omega arith) (omega arith))
    ∙ sym (ap (λ b. length (cond b (x ∷ at_least least xs) (at_least least xs))) (back 0 x (omega arith) (omega arith)))
lines_at (x ∷ xs) least (suc i) short front back =
    let rest = lines_at xs least i (omega arith) (λ k d h. front (suc k) d (omega arith)) (λ k d low h. back (suc k) d (omega arith) (omega arith)) in
    let here = ap (λ b. length (cond b (x ∷ at_least least xs) (at_least least xs))) (front 0 x (omega arith)) in
    omega arith

pub parted_down : (least : ℕ) (xs : List ℕ) → Descend xs → IsPartitionedBy (λ x. nat_le least x) xs
parted_down least [] down i j d le lt passes = absurd (omega arith)
parted_down least (x ∷ xs) down zero zero d le lt passes = passes
parted_down least (x ∷ xs) down zero (suc j) d le lt passes =
    let low : get_or xs j d ≤ x = all_at xs j d (omega arith) down.0 in
    grind (arith, nat_tests)
  where
    all_at : (ys : List ℕ) (k d : ℕ) → k < length ys → AllByRecursion (λ y. y ≤ x) ys → get_or ys k d ≤ x
    all_at [] k d h all = absurd (omega arith)
    all_at (y ∷ ys) zero d h all = all.0
    all_at (y ∷ ys) (suc k) d h all = all_at ys k d (omega arith) all.1
parted_down least (x ∷ xs) down (suc i) zero d le lt passes = absurd (omega arith)
parted_down least (x ∷ xs) down (suc i) (suc j) d le lt passes = parted_down least xs down.1 i j d (omega arith) (omega arith) passes

-- ---- sorted, and turned round
Ascend : List ℕ → Type 0
Ascend [] = Unit {0}
Ascend (x ∷ xs) = AllByRecursion (λ y. x ≤ y) xs × Ascend xs

sorted_tail : (x : ℕ) (xs : List ℕ) → IsSorted nat_cmp (x ∷ xs) → IsSorted nat_cmp xs
sorted_tail x xs s = λ k d low high.
    let e : suc k + 1 ≡ suc (k + 1) = omega arith in
    subst (λ n. is_lt (nat_cmp (get_or (x ∷ xs) n d) (get_or (x ∷ xs) (suc k) d)) ≡ false) e (s (suc k) d (omega arith) (omega arith))

not_less : (x y : ℕ) → is_lt (nat_cmp y x) ≡ false → x ≤ y
not_less x y e = grind (arith, nat_tests)

higher : (x y : ℕ) (xs : List ℕ) → x ≤ y → AllByRecursion (λ z. y ≤ z) xs → AllByRecursion (λ z. x ≤ z) xs
higher x y [] low all = tt
higher x y (z ∷ xs) low all = (omega (arith, low, all.0), higher x y xs low all.1)

ascend : (xs : List ℕ) → IsSorted nat_cmp xs → Ascend xs
unfolding Ascend
ascend [] s = tt
ascend (x ∷ []) s = (tt, tt)
ascend (x ∷ y ∷ xs) s =
    let rest : Ascend (y ∷ xs) = ascend (y ∷ xs) (sorted_tail x (y ∷ xs) s) in
    let low : x ≤ y = not_less x y (s 0 x (omega arith) (omega arith)) in
    ((low, higher x y xs low rest.0), rest)

all_reverse : (P : ℕ → Type 0) (xs : List ℕ) → AllByRecursion P xs → AllByRecursion P (reverse xs)
all_reverse P [] all = tt
all_reverse P (x ∷ xs) all = subst (AllByRecursion P) (sym (reverse_onto xs x [])) (all_append P (reverse xs) (x ∷ []) (all_reverse P xs all.1) (all.0, tt))

descend_push : (xs : List ℕ) (y : ℕ) → Descend xs → AllByRecursion (λ x. y ≤ x) xs → Descend (xs ++ y ∷ [])
descend_push [] y down all = (tt, tt)
descend_push (x ∷ xs) y down all = (all_append (λ z. z ≤ x) xs (y ∷ []) down.0 (all.0, tt), descend_push xs y down.1 all.1)

pub descend_reversed : (xs : List ℕ) → IsSorted nat_cmp xs → Descend (reverse xs)
unfolding Ascend
descend_reversed xs sorted = by xs (ascend xs sorted)
  where
    by : (ys : List ℕ) → Ascend ys → Descend (reverse ys)
    by [] up = tt
    by (y ∷ ys) up = subst Descend (sym (reverse_onto ys y [])) (descend_push (reverse ys) y (by ys up.1) (all_reverse (λ z. y ≤ z) ys up.0))

-- ---- the share of a total
pub is_share : (total cutoff : ℕ) → IsShare total cutoff (cutoff * (total / 1000000) + (cutoff * (total % 1000000) + 1000000 - 1) / 1000000)
is_share total cutoff sum = (there, back)
  where
    q : ℕ
    q = total / 1000000

    r : ℕ
    r = total % 1000000

    out : cutoff * (1000000 * q) ≡ 1000000 * (cutoff * q)
    out = sym (mul_assoc cutoff 1000000 q) ∙ ap (λ n. n * q) (mul_comm cutoff 1000000) ∙ mul_assoc 1000000 cutoff q

    whole : cutoff * total ≡ 1000000 * (cutoff * q) + cutoff * r
    whole =
        ap (λ n. cutoff * n) (sym (div-add-mod total 1000000)) ∙ mul-add cutoff (1000000 * q) r ∙ ap (λ n. n + cutoff * r) out

    share : ℕ
    share = cutoff * q + (cutoff * r + 1000000 - 1) / 1000000

    there : share ≤ sum → cutoff * total ≤ 1000000 * sum
    there h = omega (arith, whole, h)

    back : cutoff * total ≤ 1000000 * sum → share ≤ sum
    back h = omega (arith, whole, h)

-- ---- as the functions ask
pub greatest_first : (xs : List ℕ) (x : ℕ) → Descend xs → slice_get xs 0 ≡ Some x → x ≡ greatest xs
greatest_first [] x down is = absurd cc
greatest_first (y ∷ xs) x down is =
    let same : y ≡ x = same_Some y x is in
    let low = within (λ _. true) y (y ∷ xs) (low_above (λ _. true) y (y ∷ xs) (omega arith, down.0)) in
    let high = greatest_above (λ _. true) [] y xs refl in
    let whole = ap greatest (all_pass (y ∷ xs)) in
    omega arith

pub least_hot_found : (xs : List ℕ) (i d cutoff total share sum_ : ℕ) → Descend xs → total ≡ sum xs → IsShare total cutoff share → i < length xs
    → sum_ ≡ sum (take i xs) → (i ≡ 0) ⊎ (sum_ < share) → share ≤ sum_ + get_or xs i d → least_hot xs cutoff ≡ get_or xs i d
least_hot_found xs i d cutoff total share sum_ down is_total is_share inside is_sum short reached =
    least_hot_here xs i (get_or xs i d) cutoff down inside (get_or_default xs i d (get_or xs i d) inside) (before short)
    (let h = (is_share (sum_ + get_or xs i d)).0 reached in subst (λ n. cutoff * n ≤ 1000000 * (sum (take i xs) + get_or xs i d)) is_total (subst (λ n. cutoff * total ≤ 1000000 * (n + get_or xs i d)) is_sum h))
  where
    before : (i ≡ 0) ⊎ (sum_ < share) → (i ≡ 0) ⊎ (1000000 * sum (take i xs) < cutoff * sum xs)
    before (inl none) = inl none
    before (inr low) = inr (not_reached (cases_lt (1000000 * sum (take i xs)) (cutoff * sum xs)))
      where
        not_reached : (1000000 * sum (take i xs) < cutoff * sum xs) ⊎ (cutoff * sum xs ≤ 1000000 * sum (take i xs)) → 1000000 * sum (take i xs) < cutoff * sum xs
        not_reached (inl h) = h
        not_reached (inr h) =
            let over = (is_share sum_).1 (subst (λ n. cutoff * n ≤ 1000000 * sum_) (sym is_total) (subst (λ n. cutoff * sum xs ≤ 1000000 * n) (sym is_sum) h)) in
            absurd (omega (arith, low, over))

pub least_hot_end : (xs : List ℕ) (i cutoff total share sum_ : ℕ) → total ≡ sum xs → cutoff ≤ 1000000 → IsShare total cutoff share → length xs ≤ i
    → sum_ ≡ sum (take i xs) → (i ≡ 0) ⊎ (sum_ < share) → least_hot xs cutoff ≡ 0
least_hot_end xs i cutoff total share sum_ is_total low is_share past is_sum short = least_hot_none xs cutoff low (by short)
  where
    all : sum_ ≡ sum xs
    all = is_sum ∙ ap sum (take_all i xs past)

    by : (i ≡ 0) ⊎ (sum_ < share) → (length xs ≡ 0) ⊎ (1000000 * sum xs < cutoff * sum xs)
    by (inl none) = inl (omega arith)
    by (inr under) = inr (not_reached (cases_lt (1000000 * sum xs) (cutoff * sum xs)))
      where
        not_reached : (1000000 * sum xs < cutoff * sum xs) ⊎ (cutoff * sum xs ≤ 1000000 * sum xs) → 1000000 * sum xs < cutoff * sum xs
        not_reached (inl h) = h
        not_reached (inr h) =
            let over = (is_share sum_).1 (subst (λ n. cutoff * n ≤ 1000000 * sum_) (sym is_total) (subst (λ n. cutoff * sum xs ≤ 1000000 * n) (sym all) h)) in
            absurd (omega (arith, under, over))

pub lines_by_point : (xs : List ℕ) (least i : ℕ) → i ≤ length xs → IsPartitionPoint (λ x. nat_le least x ≡ true) (λ x. nat_le least x ≡ false) xs i → i ≡ length (at_least least xs)
lines_by_point xs least i short point = lines_at xs least i short (λ k d h. point.0 k d (omega arith) h) (λ k d low h. point.1 k d low h)
