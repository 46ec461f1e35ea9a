-- Pairs made one.
use Rattle.std.proofs.Common.{◌≡◌, ◌≤◌, ◌<◌, ℕ, zero, suc, ◌+◌, ◌==◌, nat_lt, true, false, cond, ◌&&◌, ◌||◌, List, [], ◌∷◌, ◌++◌, length, get_or, drop, take, sum_by, refl, sym, ap, subst, ◌∙◌, arith, All, IsSorted, zero-add}
use Rattle.std.proofs.lemmas.Bool.{true≢false}
use Rattle.std.proofs.lemmas.Bool.Decides.{nat_tests}
use Rattle.std.proofs.lemmas.Cmp.{nat_cmp_total, on_total, then_total, upto}
use Rattle.std.proofs.lemmas.List.{drop_more, take_more}
use Rattle.std.proofs.lemmas.List.Sums.{sum_by-cons}
use Rattle.std.specs.Cmp.{IsTotalOrder}
use Rattle.std.specs.List.{AllByRecursion, list_any}
use Rattle.std.specs.List.Sorted.{IsStrictlySortedBy}
use Rattle.std.specs.Ordering.{is_gt, is_lt, ordering_reverse}
use Rattle.std.specs.declared.cmp.Ordering.TheVariants.{Less, Equal, Greater}
use Rattle.profile_lists.specs.Pairs.{is_at, times_at, sum_at, place_cmp, pair_cmp, joined, with_pair, AreMerged}
use Rattle.profile_lists.specs.declared.pairs.RankedCall.{RankedCall}

pub place_total : IsTotalOrder place_cmp
place_total = then_total (on_total (λ p. p.key) nat_cmp_total) (on_total (λ p. p.rank) nat_cmp_total)

Above : RankedCall → List RankedCall → Type 0
Above p pairs = AllByRecursion (λ q. place_cmp p q ≡ Less) pairs

pub Upto : List RankedCall → RankedCall → Type 0
Upto pairs q = AllByRecursion (λ p. is_gt (place_cmp p q) ≡ false) pairs

sum_joined : (last pair : RankedCall) (key rank : ℕ) → sum_at (joined last pair) key rank ≡ times_at key rank last + times_at key rank pair
sum_joined last pair key rank =
    elim (is_at last.key last.rank pair) as (λ b. is_at last.key last.rank pair ≡ b → sum_by (times_at key rank) (cond b (record { key = last.key; rank = last.rank; times = last.times + pair.times } ∷ []) (last ∷ pair ∷ [])) ≡ times_at key rank last + times_at key rank pair) [
      | true ↦ λ e. zero-add _ ∙ same_place last pair key rank e
      | false ↦ λ _. sum_by-cons (times_at key rank) last (pair ∷ []) ∙ ap (λ n. times_at key rank last + n) (zero-add _)
    ] refl
  where
    same_place : (last pair : RankedCall) (key rank : ℕ) → is_at last.key last.rank pair ≡ true → cond (last.key == key && last.rank == rank) (last.times + pair.times) 0 ≡ times_at key rank last + times_at key rank pair
    same_place last pair key rank e =
        let k : pair.key ≡ last.key = grind (arith, nat_tests) in
        let r : pair.rank ≡ last.rank = grind (arith, nat_tests) in
        let t : times_at key rank pair ≡ cond (last.key == key && last.rank == rank) pair.times 0 = λ i. cond (k i == key && r i == rank) pair.times 0 in
        elim (last.key == key && last.rank == rank) as (λ b. cond b (last.times + pair.times) 0 ≡ cond b last.times 0 + cond b pair.times 0) [
          | true ↦ refl
          | false ↦ refl
        ]
        ∙ ap (λ n. times_at key rank last + n) (sym t)

pub sum_with_pair : (out : List RankedCall) (pair : RankedCall) (key rank : ℕ) → sum_at (with_pair out pair) key rank ≡ sum_at out key rank + times_at key rank pair
sum_with_pair [] pair key rank = refl
sum_with_pair (q ∷ []) pair key rank = sum_joined q pair key rank ∙ ap (λ n. n + times_at key rank pair) (sym (zero-add (times_at key rank q)))
sum_with_pair (q ∷ r ∷ out) pair key rank =
    let a = sum_by-cons (times_at key rank) q (with_pair (r ∷ out) pair) in
    let b = sum_with_pair (r ∷ out) pair key rank in
    let c = sum_by-cons (times_at key rank) q (r ∷ out) in
    omega arith

made_with_pair : (out : List RankedCall) (pair : RankedCall) → AllByRecursion (λ p. 0 < p.times) out → 0 < pair.times → AllByRecursion (λ p. 0 < p.times) (with_pair out pair)
made_with_pair [] pair all h = (h, tt)
made_with_pair (q ∷ []) pair all h =
    elim (is_at q.key q.rank pair) as (λ b. AllByRecursion (λ p. 0 < p.times) (cond b (record { key = q.key; rank = q.rank; times = q.times + pair.times } ∷ []) (q ∷ pair ∷ []))) [
      | true ↦ (omega (arith, all.0), tt)
      | false ↦ (all.0, (h, tt))
    ]
made_with_pair (q ∷ r ∷ out) pair all h = (all.0, made_with_pair (r ∷ out) pair all.1 h)

above_with_pair : (p : RankedCall) (out : List RankedCall) (pair : RankedCall) → Above p out → place_cmp p pair ≡ Less → Above p (with_pair out pair)
unfolding Above
above_with_pair p [] pair above h = (h, tt)
above_with_pair p (q ∷ []) pair above h =
    elim (is_at q.key q.rank pair) as (λ b. AllByRecursion (λ r. place_cmp p r ≡ Less) (cond b (record { key = q.key; rank = q.rank; times = q.times + pair.times } ∷ []) (q ∷ pair ∷ []))) [
      | true ↦ (above.0, tt)
      | false ↦ (above.0, (h, tt))
    ]
above_with_pair p (q ∷ r ∷ out) pair above h = (above.0, above_with_pair p (r ∷ out) pair above.1 h)

before_next : (p q r : RankedCall) → place_cmp p q ≡ Less → is_gt (place_cmp q r) ≡ false → place_cmp p r ≡ Less
before_next p q r less n =
    elim (place_cmp q r) as (λ o. place_cmp q r ≡ o → is_gt o ≡ false → place_cmp p r ≡ Less) [
      | Less ↦ λ e _. place_total.trans p q r less e
      | Equal ↦ λ e _. same_behind p q r e ∙ less
      | Greater ↦ λ _ g. absurd (true≢false g)
    ] refl n
  where
    same_behind : (p q r : RankedCall) → place_cmp q r ≡ Equal → place_cmp p r ≡ place_cmp p q
    same_behind p q r e = place_total.antisymm p r ∙ ap ordering_reverse (sym (place_total.congr q r p e)) ∙ sym (place_total.antisymm p q)

not_same_less : (q pair : RankedCall) → is_gt (place_cmp q pair) ≡ false → is_at q.key q.rank pair ≡ false → place_cmp q pair ≡ Less
not_same_less q pair n e = grind (arith, nat_tests)

strict_with_pair : (out : List RankedCall) (pair : RankedCall) → IsStrictlySortedBy place_cmp out → Upto out pair → IsStrictlySortedBy place_cmp (with_pair out pair)
unfolding Above Upto IsStrictlySortedBy
strict_with_pair [] pair s u = (tt, tt)
strict_with_pair (q ∷ []) pair s u =
    elim (is_at q.key q.rank pair) as (λ b. is_at q.key q.rank pair ≡ b → IsStrictlySortedBy place_cmp (cond b (record { key = q.key; rank = q.rank; times = q.times + pair.times } ∷ []) (q ∷ pair ∷ []))) [
      | true ↦ λ _. (tt, tt)
      | false ↦ λ e. ((not_same_less q pair u.0 e, tt), (tt, tt))
    ] refl
strict_with_pair (q ∷ r ∷ out) pair s u =
    (above_with_pair q (r ∷ out) pair s.0 (before_next q r pair s.0.0 u.1.0), strict_with_pair (r ∷ out) pair s.1 u.1)

upto_with_pair : (out : List RankedCall) (pair q : RankedCall) → Upto out q → is_gt (place_cmp pair q) ≡ false → Upto (with_pair out pair) q
unfolding Upto
upto_with_pair [] pair q u h = (h, tt)
upto_with_pair (p ∷ []) pair q u h =
    elim (is_at p.key p.rank pair) as (λ b. AllByRecursion (λ r. is_gt (place_cmp r q) ≡ false) (cond b (record { key = p.key; rank = p.rank; times = p.times + pair.times } ∷ []) (p ∷ pair ∷ []))) [
      | true ↦ (u.0, tt)
      | false ↦ (u.0, (h, tt))
    ]
upto_with_pair (p ∷ r ∷ out) pair q u h = (u.0, upto_with_pair (r ∷ out) pair q u.1 h)

-- all pairs so far stand not behind all that are left
pub AllUpto : List RankedCall → List RankedCall → Type 0
AllUpto out left = AllByRecursion (λ q. Upto out q) left

all_upto_with : (out : List RankedCall) (pair : RankedCall) (left : List RankedCall) → AllUpto out left → AllByRecursion (λ q. is_gt (place_cmp pair q) ≡ false) left → AllUpto (with_pair out pair) left
unfolding AllUpto
all_upto_with out pair [] u h = tt
all_upto_with out pair (q ∷ left) u h = (upto_with_pair out pair q u.0 h.0, all_upto_with out pair left u.1 h.1)

-- pairs in order
not_behind : (p q : RankedCall) → is_lt (pair_cmp q p) ≡ false → is_gt (place_cmp p q) ≡ false
not_behind p q n = grind (arith, nat_tests)

sorted_tail : (x : RankedCall) (xs : List RankedCall) → IsSorted pair_cmp (x ∷ xs) → IsSorted pair_cmp xs
sorted_tail x xs s = λ k d low high.
    let e : suc k + 1 ≡ suc (k + 1) = omega arith in
    subst (λ n. is_lt (pair_cmp (get_or (x ∷ xs) n d) (get_or (x ∷ xs) (suc k) d)) ≡ false) e (s (suc k) d (omega arith) (omega arith))

-- each pair stands not behind those that follow
pub Ordered : List RankedCall → Type 0
Ordered [] = Unit {0}
Ordered (p ∷ pairs) = AllByRecursion (λ q. is_gt (place_cmp p q) ≡ false) pairs × Ordered pairs

far_not_behind : (p q : RankedCall) (pairs : List RankedCall) → is_gt (place_cmp p q) ≡ false → AllByRecursion (λ r. is_gt (place_cmp q r) ≡ false) pairs → AllByRecursion (λ r. is_gt (place_cmp p r) ≡ false) pairs
far_not_behind p q [] n all = tt
far_not_behind p q (r ∷ pairs) n all = (upto place_total p q r n all.0, far_not_behind p q pairs n all.1)

ordered_from : (pairs : List RankedCall) → IsSorted pair_cmp pairs → Ordered pairs
unfolding Ordered
ordered_from [] s = tt
ordered_from (p ∷ []) s = (tt, tt)
ordered_from (p ∷ q ∷ pairs) s =
    let rest : Ordered (q ∷ pairs) = ordered_from (q ∷ pairs) (sorted_tail p (q ∷ pairs) s) in
    let n : is_gt (place_cmp p q) ≡ false = not_behind p q (s 0 p (omega arith) (omega arith)) in
    ((n, far_not_behind p q pairs n rest.0), rest)

-- the pairs merged so far
pub record MergedSoFar (pairs : List RankedCall) (i : ℕ) (out : List RankedCall) : Type 0 where
  pub ascending : IsStrictlySortedBy place_cmp out
  pub made : AllByRecursion (λ p. 0 < p.times) out
  pub upto : AllUpto out (drop i pairs)
  pub ahead : Ordered (drop i pairs)
  pub sums : (key rank : ℕ) → sum_at out key rank ≡ sum_at (take i pairs) key rank

none_upto : (left : List RankedCall) → AllUpto [] left
unfolding AllUpto Upto
none_upto [] = tt
none_upto (q ∷ left) = (tt, none_upto left)

pub none_merged : (pairs : List RankedCall) → IsSorted pair_cmp pairs → MergedSoFar pairs 0 []
unfolding IsStrictlySortedBy
none_merged pairs s = record { ascending = tt; made = tt; upto = none_upto pairs; ahead = ordered_from pairs s; sums = λ key rank. refl }

sum_append : (xs : List RankedCall) (y : RankedCall) (key rank : ℕ) → sum_at (xs ++ y ∷ []) key rank ≡ sum_at xs key rank + times_at key rank y
sum_append [] y key rank = refl
sum_append (x ∷ xs) y key rank =
    let a = sum_by-cons (times_at key rank) x (xs ++ y ∷ []) in
    let b = sum_append xs y key rank in
    let c = sum_by-cons (times_at key rank) x xs in
    omega arith

pub one_more_pair : (pairs : List RankedCall) (i : ℕ) (d : RankedCall) (out : List RankedCall) → i < length pairs → 0 < (get_or pairs i d).times → MergedSoFar pairs i out → MergedSoFar pairs (i + 1) (with_pair out (get_or pairs i d))
unfolding AllUpto Ordered
one_more_pair pairs i d out h positive far =
    let p = get_or pairs i d in
    let left : drop i pairs ≡ p ∷ drop (i + 1) pairs = drop_more pairs i d h in
    let upto : AllUpto out (p ∷ drop (i + 1) pairs) = subst (AllUpto out) left far.upto in
    let ahead : Ordered (p ∷ drop (i + 1) pairs) = subst Ordered left far.ahead in
    record {
      ascending = strict_with_pair out p far.ascending upto.0;
      made = made_with_pair out p far.made positive;
      upto = all_upto_with out p (drop (i + 1) pairs) upto.1 ahead.0;
      ahead = ahead.1;
      sums = λ key rank. sum_with_pair out p key rank ∙ ap (λ n. n + times_at key rank p) (far.sums key rank) ∙ sym (ap (λ xs. sum_at xs key rank) (take_more pairs i d h) ∙ sum_append (take i pairs) p key rank);
    }

-- the sum of a place within a list is no more than that of the whole
pub sum_fits : (pairs : List RankedCall) (i : ℕ) (d : RankedCall) (out : List RankedCall) (limit : ℕ) → i < length pairs → MergedSoFar pairs i out → ((key rank : ℕ) → sum_at pairs key rank < limit) → sum_at out (get_or pairs i d).key (get_or pairs i d).rank + (get_or pairs i d).times < limit
sum_fits pairs i d out limit h far fit =
    let p = get_or pairs i d in
    let a = far.sums p.key p.rank in
    let own : times_at p.key p.rank p ≡ p.times = ap (λ b. cond b p.times 0) (at_itself p) in
    let whole : sum_at pairs p.key p.rank ≡ sum_at (take i pairs) p.key p.rank + sum_at (drop i pairs) p.key p.rank = sum_split pairs i p.key p.rank in
    let rest : sum_at (drop i pairs) p.key p.rank ≡ times_at p.key p.rank p + sum_at (drop (i + 1) pairs) p.key p.rank = ap (λ xs. sum_at xs p.key p.rank) (drop_more pairs i d h) ∙ sum_by-cons (times_at p.key p.rank) p (drop (i + 1) pairs) in
    let f = fit p.key p.rank in
    omega arith
  where
    at_itself : (p : RankedCall) → is_at p.key p.rank p ≡ true
    at_itself p = grind (arith, nat_tests)

    sum_split : (pairs : List RankedCall) (i key rank : ℕ) → sum_at pairs key rank ≡ sum_at (take i pairs) key rank + sum_at (drop i pairs) key rank
    sum_split pairs zero key rank = sym (zero-add _)
    sum_split [] (suc i) key rank = refl
    sum_split (x ∷ pairs) (suc i) key rank =
        let a = sum_by-cons (times_at key rank) x pairs in
        let b = sum_split pairs i key rank in
        let c = sum_by-cons (times_at key rank) x (take i pairs) in
        omega arith

pub all_index : (P : RankedCall → Type 0) (xs : List RankedCall) → AllByRecursion P xs → All P xs
all_index P [] all = λ k d h. absurd (omega arith)
all_index P (x ∷ xs) all = λ k. elim k as (λ m. (d : RankedCall) → m < suc (length xs) → P (get_or (x ∷ xs) m d)) [
  | zero ↦ λ d h. all.0
  | suc m ↦ λ d h. all_index P xs all.1 m d (omega arith)
]

pub all_merged : (pairs out : List RankedCall) (i : ℕ) → length pairs ≤ i → take i pairs ≡ pairs → MergedSoFar pairs i out → AreMerged pairs out
all_merged pairs out i h whole far = record {
  ascending = far.ascending;
  made = all_index (λ p. 0 < p.times) out far.made;
  sums = λ key rank. far.sums key rank ∙ ap (λ xs. sum_at xs key rank) whole;
}

pub with_last : (front : List RankedCall) (last pair : RankedCall) → with_pair (front ++ last ∷ []) pair ≡ front ++ joined last pair
with_last [] last pair = refl
with_last (q ∷ []) last pair = refl
with_last (q ∷ r ∷ front) last pair = ap (λ xs. q ∷ xs) (with_last (r ∷ front) last pair)

pub joined_fits : (old front : List RankedCall) (last pair : RankedCall) (limit : ℕ) → old ≡ front ++ last ∷ [] → sum_at old pair.key pair.rank + pair.times < limit → is_at last.key last.rank pair ≡ true → last.times + pair.times < limit
joined_fits old front last pair limit e h at =
    let whole : sum_at old pair.key pair.rank ≡ sum_at front pair.key pair.rank + times_at pair.key pair.rank last = ap (λ xs. sum_at xs pair.key pair.rank) e ∙ sum_append front last pair.key pair.rank in
    let own : times_at pair.key pair.rank last ≡ last.times = ap (λ b. cond b last.times 0) (turned last pair at) in
    omega arith
  where
    turned : (last pair : RankedCall) → is_at last.key last.rank pair ≡ true → is_at pair.key pair.rank last ≡ true
    turned last pair e = grind (arith, nat_tests)

-- what the merged pairs tell
lacks : (key rank : ℕ) (p : RankedCall) (pairs : List RankedCall) → is_at key rank p ≡ true → AllByRecursion (λ q. place_cmp p q ≡ Less) pairs → AllByRecursion (λ q. is_at key rank q ≡ false) pairs
lacks key rank p [] at above = tt
lacks key rank p (q ∷ pairs) at above = (other key rank p q at above.0, lacks key rank p pairs at above.1)
  where
    other : (key rank : ℕ) (p q : RankedCall) → is_at key rank p ≡ true → place_cmp p q ≡ Less → is_at key rank q ≡ false
    other key rank p q at less = grind (arith, nat_tests)

sum_of_none : (key rank : ℕ) (pairs : List RankedCall) → AllByRecursion (λ q. is_at key rank q ≡ false) pairs → sum_at pairs key rank ≡ 0
sum_of_none key rank [] all = refl
sum_of_none key rank (q ∷ pairs) all = sum_by-cons (times_at key rank) q pairs ∙ (λ i. cond (all.0 i) q.times 0 + sum_of_none key rank pairs all.1 i)

any_of_none : (key rank times : ℕ) (pairs : List RankedCall) → AllByRecursion (λ q. is_at key rank q ≡ false) pairs → list_any (λ q. is_at key rank q && (q.times == times)) pairs ≡ false
any_of_none key rank times [] all = refl
any_of_none key rank times (q ∷ pairs) all = (λ i. (all.0 i && (q.times == times)) || any_of_none key rank times pairs all.1 i)

pub merged_tells : (pairs : List RankedCall) (key rank times : ℕ) → IsStrictlySortedBy place_cmp pairs → AllByRecursion (λ p. 0 < p.times) pairs → list_any (λ q. is_at key rank q && (q.times == times)) pairs ≡ (nat_lt 0 times && sum_at pairs key rank == times)
unfolding IsStrictlySortedBy
merged_tells [] key rank times s made = none times
  where
    none : (times : ℕ) → false ≡ (nat_lt 0 times && 0 == times)
    none times = grind (arith, nat_tests)
merged_tells (p ∷ pairs) key rank times s made =
    elim (is_at key rank p) as (λ b. is_at key rank p ≡ b → ((b && (p.times == times)) || list_any (λ q. is_at key rank q && (q.times == times)) pairs) ≡ (nat_lt 0 times && cond b p.times 0 + sum_at pairs key rank == times)) [
      | true ↦ λ e.
          let none = lacks key rank p pairs e s.0 in
          (λ i. (p.times == times) || any_of_none key rank times pairs none i) ∙ alone p.times times made.0
          ∙ sym (ap (λ n. nat_lt 0 times && p.times + n == times) (sum_of_none key rank pairs none))
      | false ↦ λ _. merged_tells pairs key rank times s.1 made.1 ∙ ap (λ n. nat_lt 0 times && n == times) (sym (zero-add (sum_at pairs key rank)))
    ] refl
    ∙ ap (λ n. nat_lt 0 times && n == times) (sym (sum_by-cons (times_at key rank) p pairs))
  where
    alone : (n times : ℕ) → 0 < n → ((n == times) || false) ≡ (nat_lt 0 times && n + 0 == times)
    alone n times h = grind (arith, nat_tests)
