-- A number for each, changed at one.
use Rattle.std.proofs.Common.{◌≡◌, ◌⊎◌, ◌≤◌, ◌<◌, ℕ, ◌+◌, ◌-◌, ◌^◌, ◌==◌, min, cond, List, [], ◌∷◌, ◌++◌, map, take, length, get_or, set, replicate, sum_by, Option, Some, false, refl, sym, ap, ◌∙◌, inl, inr, arith, get_or-set_same, get_or-set_other, zero-add}
use Rattle.std.proofs.lemmas.Bool.Decides.{nat_tests}
use Rattle.std.proofs.lemmas.List.{take_more, length-replicate, length-set, get_or-replicate}
use Rattle.std.proofs.lemmas.List.Sums.{sum_by_push, sum_by_more_le}
use Rattle.std.specs.List.{range_with_len, slice_get}
use Rattle.std.proofs.lemmas.List.FromFn.{map-range_with_len_more}
use Rattle.key_types.specs.declared.key.Key.{Key}
use Rattle.profile_model.specs.Profile.{capped}
use Rattle.profile_model.proofs.StepLemmas.{nat_refl as test_itself}
use Rattle.profile_tree.specs.Sums.{AreEach, counts_below, entries_of, share}
use Rattle.profile_tree.specs.declared.head.Head.{Head}

same_or_not : (m n : ℕ) → (m ≡ n) ⊎ (m ≡ n → ⊥)
same_or_not m n = grind arith

pub one_changed : (n : ℕ) (f g : ℕ → ℕ) (numbers : List ℕ) (id v : ℕ) → id < n → AreEach n f numbers → v ≡ g id → ((m : ℕ) → (m ≡ id → ⊥) → g m ≡ f m) → AreEach n g (set numbers id v)
one_changed n f g numbers id v h far here others = record {
  len = length-set numbers id v ∙ far.len;
  each = λ m low.
      let long : id < length numbers = omega (arith, far.len) in
      elim (same_or_not m id) as (λ _. get_or (set numbers id v) m 0 ≡ g m) [
        | inl e ↦ ap (λ k. get_or (set numbers id v) k 0) e ∙ get_or-set_same numbers id v 0 long ∙ here ∙ ap g (sym e)
        | inr ne ↦ get_or-set_other numbers id m v 0 ne ∙ far.each m low ∙ sym (others m ne)
      ];
}

none_yet : (m : ℕ) → min 0 m ≡ 0
none_yet m = omega arith

pub no_entries : (n : ℕ) → AreEach n (entries_of []) (replicate n 0)
no_entries n = record { len = length-replicate n 0; each = λ id h. get_or-replicate n id 0 0 h }

pub no_counts : (keys : List Key) (counts : List ℕ) (n : ℕ) → AreEach n (λ name. capped (counts_below keys counts 0 name)) (replicate n 0)
no_counts keys counts n = record { len = length-replicate n 0; each = λ id h. get_or-replicate n id 0 0 h ∙ sym (none_yet (2 ^ 64 - 1)) }

entry_more : (heads : List Head) (i m : ℕ) (d : Head) → i < length heads → entries_of (take (i + 1) heads) m ≡ entries_of (take i heads) m + cond ((get_or heads i d).name.0 == m) (get_or heads i d).times 0
entry_more heads i m d h = ap (λ xs. entries_of xs m) (take_more heads i d h) ∙ sum_by_push (λ head. cond (head.name.0 == m) head.times 0) (take i heads) (get_or heads i d)

pub test_is : (k m : ℕ) → (m ≡ k → ⊥) → (k == m) ≡ false
test_is k m ne = grind (arith, nat_tests)

pub add_none : (n : ℕ) → n + 0 ≡ n
add_none n = omega arith

pub one_head : (n i v : ℕ) (heads : List Head) (d : Head) (sums : List ℕ) → i < length heads → (get_or heads i d).name.0 < n → AreEach n (entries_of (take i heads)) sums → v ≡ get_or sums (get_or heads i d).name.0 0 + (get_or heads i d).times → AreEach n (entries_of (take (i + 1) heads)) (set sums (get_or heads i d).name.0 v)
one_head n i v heads d sums h low far e =
    let head = get_or heads i d in
    one_changed n (entries_of (take i heads)) (entries_of (take (i + 1) heads)) sums head.name.0 v low far
    (e ∙ ap (λ k. k + head.times) (far.each head.name.0 low) ∙ ap (λ b. entries_of (take i heads) head.name.0 + cond b head.times 0) (sym (test_itself head.name.0)) ∙ sym (entry_more heads i head.name.0 d h))
    (λ m ne. entry_more heads i m d h ∙ ap (λ b. entries_of (take i heads) m + cond b head.times 0) (test_is head.name.0 m ne) ∙ add_none (entries_of (take i heads) m))

range_more : (a n : ℕ) → range_with_len a (n + 1) ≡ range_with_len a n ++ (a + n) ∷ []
range_more a n = sym (ids (range_with_len a (n + 1))) ∙ map-range_with_len_more (λ x. x) a n (a + n) refl ∙ ap (λ xs. xs ++ (a + n) ∷ []) (ids (range_with_len a n))
  where
    ids : (xs : List ℕ) → map (λ x. x) xs ≡ xs
    ids [] = refl
    ids (x ∷ xs) = ap (λ ys. x ∷ ys) (ids xs)

pub from_none : (n : ℕ) → range_with_len 0 (n + 1) ≡ range_with_len 0 n ++ n ∷ []
from_none n = range_more 0 n ∙ ap (λ k. range_with_len 0 n ++ k ∷ []) (zero-add n)

below_more : (keys : List Key) (counts : List ℕ) (i m : ℕ) → counts_below keys counts (i + 1) m ≡ counts_below keys counts i m + share m (get_or counts i 0) (slice_get keys i)
below_more keys counts i m =
    ap (sum_by (λ id. share m (get_or counts id 0) (slice_get keys id))) (from_none i) ∙ sum_by_push (λ id. share m (get_or counts id 0) (slice_get keys id)) (range_with_len 0 i) i

share_is : (m count : ℕ) (key : Key) (o : Option Key) → o ≡ Some key → share m count o ≡ cond (key.root.0 == m) count 0
share_is m count key o e = ap (share m count) e

cap_more : (m s c : ℕ) → min (min s m + c) m ≡ min (s + c) m
cap_more m s c = omega arith

pub one_count : (n i : ℕ) (keys : List Key) (counts : List ℕ) (key : Key) (totals : List ℕ) → slice_get keys i ≡ Some key → key.root.0 < n → AreEach n (λ name. capped (counts_below keys counts i name)) totals → AreEach n (λ name. capped (counts_below keys counts (i + 1) name)) (set totals key.root.0 (capped (get_or totals key.root.0 0 + get_or counts i 0)))
one_count n i keys counts key totals is low far =
    let root = key.root.0 in
    let count = get_or counts i 0 in
    let below : ℕ → ℕ = λ m. counts_below keys counts i m in
    let more : (m : ℕ) → counts_below keys counts (i + 1) m ≡ below m + cond (root == m) count 0 = λ m. below_more keys counts i m ∙ ap (λ k. below m + k) (share_is m count key (slice_get keys i) is) in
    one_changed n (λ m. capped (below m)) (λ m. capped (counts_below keys counts (i + 1) m)) totals root (capped (get_or totals root 0 + count)) low far
    (ap (λ k. capped (k + count)) (far.each root low) ∙ cap_more (2 ^ 64 - 1) (below root) count ∙ ap (λ b. capped (below root + cond b count 0)) (sym (test_itself root)) ∙ ap capped (sym (more root)))
    (λ m ne. ap capped (more m ∙ ap (λ b. below m + cond b count 0) (test_is root m ne) ∙ add_none (below m)))

pub entry_fits : (n i : ℕ) (heads : List Head) (d : Head) (sums : List ℕ) → i < length heads → (get_or heads i d).name.0 < n → AreEach n (entries_of (take i heads)) sums → get_or sums (get_or heads i d).name.0 0 + (get_or heads i d).times ≤ entries_of heads (get_or heads i d).name.0
entry_fits n i heads d sums h low far =
    let head = get_or heads i d in
    let id = head.name.0 in
    let here : get_or sums id 0 ≡ entries_of (take i heads) id = far.each id low in
    let mine : cond (head.name.0 == id) head.times 0 ≡ head.times = ap (λ b. cond b head.times 0) (test_itself id) in
    omega (arith, here, mine, sum_by_more_le (λ x. cond (x.name.0 == id) x.times 0) heads i d h)
