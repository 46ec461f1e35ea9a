-- Owners of spans that ascend, and which spans lie over some addresses.
use Rattle.std.proofs.Common.{◌≡◌, ◌⊎◌, ℕ, suc, ◌+◌, ◌<◌, ◌≤◌, ◌^◌, ◌-◌, max, true, List, [], ◌∷◌, ◌++◌, Option, None, Some, refl, sym, ap, subst, ◌∙◌, arith, inl, inr, length, take, drop, drop-cons, get_or}
use Rattle.std.specs.List.{AllByRecursion}
use Rattle.std.proofs.lemmas.Bool.Decides.{nat_tests}
use Rattle.std.proofs.lemmas.List.{drop_all, length-drop, take-append-drop, take_all, take_more}
use Rattle.list_lemmas.proofs.Tests.{by_test}
use Rattle.address_spans.specs.declared.span.Span.{Span}
use Rattle.address_spans.specs.Spans.{AreBetween, AreDisjoint, holds, owner_at}
use Rattle.address_spans.proofs.SearchLemmas.{IsFirstBehind}
use Rattle.address_spans.proofs.SpanLemmas.{AreBetween-rest, held, missed-behind, owner-hit, owner-miss}
use Rattle.line_lift.specs.Held.{IsCountIn}
use Rattle.line_lift.specs.Largest.{IsLargest, larger}
use Rattle.line_lift.proofs.LargestLemmas.{largest_of_both, largest_of_larger, largest_of_one}
use Rattle.line_lift.proofs.AmongLemmas.{Among, all_append, all_back, all_front, all_taken, among_all, among_either, among_left, among_right}

pub is_held : (x : Span) (a : ℕ) → holds a x ≡ true → (x.lo ≤ a) × (a < x.hi)
is_held x a e = (grind (arith, nat_tests), grind (arith, nat_tests))

pub same_some : {T : Type 0} (x y : T) → Some x ≡ Some y → x ≡ y
same_some x y e = cc

pub none_some : {T : Type 0} {P : Type 0} (x : T) → None ≡ Some x → P
none_some x e = absurd cc

-- spans from an address on begin there or behind
starts : (from to : ℕ) (xs : List Span) → AreBetween from to xs → AllByRecursion (λ x. from ≤ x.lo) xs
starts from to [] between = tt
starts from to (x ∷ xs) between = (between.0, further from x.hi xs (omega (arith, between.0, between.1)) (starts x.hi to xs between.2))
  where
    further : (from next : ℕ) (xs : List Span) → from ≤ next → AllByRecursion (λ x. next ≤ x.lo) xs → AllByRecursion (λ x. from ≤ x.lo) xs
    further from next [] low all = tt
    further from next (x ∷ xs) low all = (omega (arith, low, all.0), further from next xs low all.1)

-- each span has addresses
pub filled : (from to : ℕ) (xs : List Span) → AreBetween from to xs → AllByRecursion (λ x. x.lo < x.hi) xs
filled from to [] between = tt
filled from to (x ∷ xs) between = (between.1, filled x.hi to xs between.2)

-- a span owns its addresses
pub owns : (from to : ℕ) (xs : List Span) (x : Span) (a : ℕ) → AreBetween from to xs → Among x xs → holds a x ≡ true → owner_at xs a ≡ Some x.owner
owns from to [] x a between among hit = absurd among
owns from to (y ∷ xs) x a between among hit = elim among as (λ _. owner_at (y ∷ xs) a ≡ Some x.owner) [
  | inl e ↦ owner-hit y xs a (subst (λ (z : Span). holds a z ≡ true) e hit) ∙ ap (λ (z : Span). Some z.owner) (sym e)
  | inr r ↦
      let low = among_all (λ (z : Span). y.hi ≤ z.lo) x xs (starts y.hi to xs between.2) r in
      let inside = is_held x a hit in
      owner-miss y xs a (missed-behind y a (omega (arith, low, inside.0))) ∙ owns y.hi to xs x a between.2 r hit
]

-- the owner of an address is that of a span that holds it
pub owner_from : (xs : List Span) (a n : ℕ) → owner_at xs a ≡ Some n → (x : Span) × Among x xs × (holds a x ≡ true) × (x.owner ≡ n)
owner_from [] a n e = none_some n e
owner_from (y ∷ xs) a n e = by_test (holds a y)
    (λ hit. (y, inl refl, hit, same_some y.owner n (sym (owner-hit y xs a hit) ∙ e)))
    (λ miss. let found = owner_from xs a n (sym (owner-miss y xs a miss) ∙ e) in (found.0, inr found.1, found.2, found.3))

-- ---- the spans over some addresses

-- the owner of one of some spans
abbrev pub IsOwnerOf : List Span → ℕ → Type 0
IsOwnerOf spans n = (x : Span) × Among x spans × (x.owner ≡ n)

-- spans in front end before some addresses, these lie over them, and those behind begin behind
pub record LieOver (lo hi : ℕ) (spans front over behind : List Span) : Type 0 where
  pub joined : spans ≡ front ++ (over ++ behind)
  pub before : AllByRecursion (λ x. x.hi ≤ lo) front
  pub starts_within : AllByRecursion (λ x. x.lo < hi) over
  pub ends_within : AllByRecursion (λ x. lo < x.hi) over
  pub past : AllByRecursion (λ x. hi ≤ x.lo) behind

pub largest_over : (lo hi : ℕ) (spans front over behind : List Span) (count : Option ℕ) → AreDisjoint spans → lo < hi → LieOver lo hi spans front over behind
    → IsLargest (IsOwnerOf over) count → IsLargest (IsCountIn (owner_at spans) lo hi) count
largest_over lo hi spans front over behind count disjoint some lie = largest_of_larger (IsOwnerOf over) (IsCountIn (owner_at spans) lo hi) count
    (λ n of. let a = max lo of.0.lo in
    let first = among_all (λ (x : Span). x.lo < hi) of.0 over lie.starts_within of.1 in
    let last = among_all (λ (x : Span). lo < x.hi) of.0 over lie.ends_within of.1 in
    let among : Among of.0 spans = subst (Among of.0) (sym lie.joined) (among_right of.0 front (over ++ behind) (among_left of.0 over behind of.1)) in
    let full = among_all (λ (x : Span). x.lo < x.hi) of.0 spans (filled 0 (2 ^ 64 - 1) spans disjoint) among in
    (a, omega arith, omega (arith, some, first), owns 0 (2 ^ 64 - 1) spans of.0 a disjoint among (held of.0 a (omega arith) (omega (arith, last, full))) ∙ ap (λ m. Some m) of.2))
    (λ n at. let found = owner_from spans at.0 n at.3 in
    let inside = is_held found.0 at.0 found.2 in (
      n,
      elim (among_either found.0 front (over ++ behind) (subst (Among found.0) lie.joined found.1)) as (λ _. IsOwnerOf over n) [
        | inl f ↦ absurd (omega (arith, at.1, inside.1, among_all (λ (x : Span). x.hi ≤ lo) found.0 front lie.before f))
        | inr r ↦ elim (among_either found.0 over behind r) as (λ _. IsOwnerOf over n) [
          | inl o ↦ (found.0, o, found.3)
          | inr b ↦ absurd (omega (arith, at.2, inside.0, among_all (λ (x : Span). hi ≤ x.lo) found.0 behind lie.past b))
        ]
      ],
      omega arith,
    ))

-- ---- the loop

-- how far the spans from the first on were gone through
pub record OverSoFar (hi : ℕ) (left : List Span) (done : ℕ) (count : Option ℕ) : Type 0 where
  pub starts_within : AllByRecursion (λ x. x.lo < hi) (take done left)
  pub is : IsLargest (IsOwnerOf (take done left)) count

pub OverSoFar-none : (hi : ℕ) (left : List Span) → OverSoFar hi left 0 None
OverSoFar-none hi left = record { starts_within = none left; is = λ n of. empty left of.0 of.1 }
  where
    none : (left : List Span) → AllByRecursion (λ x. x.lo < hi) (take 0 left)
    none [] = tt
    none (x ∷ left) = tt

    empty : (left : List Span) (x : Span) → Among x (take 0 left) → ⊥
    empty [] x h = h
    empty (y ∷ left) x h = h

OwnerOf-more : (done : List Span) (x : Span) (count : Option ℕ) → IsLargest (IsOwnerOf done) count → IsLargest (IsOwnerOf (done ++ x ∷ [])) (larger count (Some x.owner))
OwnerOf-more done x count is = largest_of_both (IsOwnerOf done) (λ n. n ≡ x.owner) (IsOwnerOf (done ++ x ∷ [])) count (Some x.owner)
    (λ n of. (of.0, among_left of.0 done (x ∷ []) of.1, of.2))
    (λ n e. (x, among_right x done (x ∷ []) (inl refl), sym e))
    (λ n of. elim (among_either of.0 done (x ∷ []) of.1) as (λ _. IsOwnerOf done n ⊎ (n ≡ x.owner)) [
      | inl l ↦ inl (of.0, l, of.2)
      | inr r ↦ elim r as (λ _. IsOwnerOf done n ⊎ (n ≡ x.owner)) [ inl e ↦ inr (sym of.2 ∙ ap (λ (s : Span). s.owner) e) | inr none ↦ absurd none ]
    ])
    is (largest_of_one x.owner)

pub OverSoFar-more : (hi : ℕ) (left : List Span) (done : ℕ) (count : Option ℕ) (x d : Span) → done < length left → x ≡ get_or left done d → x.lo < hi → OverSoFar hi left done count
    → OverSoFar hi left (done + 1) (larger count (Some x.owner))
OverSoFar-more hi left done count x d within is first so_far =
    let longer : take (done + 1) left ≡ take done left ++ x ∷ [] = take_more left done d within ∙ ap (λ y. take done left ++ y ∷ []) (sym is) in
    record {
      starts_within = subst (AllByRecursion (λ s. s.lo < hi)) (sym longer) (all_append (λ s. s.lo < hi) (take done left) (x ∷ []) so_far.starts_within (first, tt));
      is = subst (λ (ys : List Span). IsLargest (IsOwnerOf ys) (larger count (Some x.owner))) (sym longer) (OwnerOf-more (take done left) x count so_far.is);
    }

-- The spans in front end at or before an address, and those that are left behind it.
pub record IsParted (lo : ℕ) (spans front left : List Span) : Type 0 where
  pub joined : spans ≡ front ++ left
  pub before : AllByRecursion (λ x. x.hi ≤ lo) front
  pub behind : AllByRecursion (λ x. lo < x.hi) left

pub parted_at : (spans : List Span) (first lo : ℕ) → IsFirstBehind spans first lo → IsParted lo spans (take first spans) (take (length spans - first) (drop first spans))
parted_at spans first lo point =
    let whole : take (length spans - first) (drop first spans) ≡ drop first spans = take_all (length spans - first) (drop first spans) (omega (arith, length-drop first spans)) in
    record {
      joined = sym (take-append-drop first spans) ∙ ap (λ ys. take first spans ++ ys) (sym whole);
      before = all_front (λ x. x.hi ≤ lo) spans first point.ended;
      behind = subst (AllByRecursion (λ x. lo < x.hi)) (sym whole) (all_back (λ x. lo < x.hi) spans first point.behind);
    }

pub OverSoFar-end : (lo hi : ℕ) (spans front left : List Span) (done : ℕ) (count : Option ℕ) → AreDisjoint spans → lo < hi → IsParted lo spans front left → AllByRecursion (λ x. hi ≤ x.lo) (drop done left)
    → OverSoFar hi left done count → IsLargest (IsCountIn (owner_at spans) lo hi) count
OverSoFar-end lo hi spans front left done count disjoint some parted past so_far =
    largest_over lo hi spans front (take done left) (drop done left) count disjoint some
    (record {
      joined = parted.joined ∙ ap (λ ys. front ++ ys) (sym (take-append-drop done left));
      before = parted.before;
      starts_within = so_far.starts_within;
      ends_within = all_taken (λ x. lo < x.hi) left done parted.behind;
      past = past;
    })
    so_far.is

-- all spans that are left begin before the last address
pub OverSoFar-all : (lo hi : ℕ) (spans front left : List Span) (done : ℕ) (count : Option ℕ) → AreDisjoint spans → lo < hi → IsParted lo spans front left → length left ≤ done
    → OverSoFar hi left done count → IsLargest (IsCountIn (owner_at spans) lo hi) count
OverSoFar-all lo hi spans front left done count disjoint some parted all so_far =
    OverSoFar-end lo hi spans front left done count disjoint some parted (subst (AllByRecursion (λ x. hi ≤ x.lo)) (sym (drop_all done left all)) tt) so_far

-- or one begins behind it
pub OverSoFar-some : (lo hi : ℕ) (spans front left : List Span) (done : ℕ) (count : Option ℕ) (x d : Span) → AreDisjoint spans → lo < hi → IsParted lo spans front left → done < length left → x ≡ get_or left done d → hi ≤ x.lo
    → OverSoFar hi left done count → IsLargest (IsCountIn (owner_at spans) lo hi) count
OverSoFar-some lo hi spans front left done count x d disjoint some parted within is last so_far =
    let rest : drop done left ≡ x ∷ drop (suc done) left = drop-cons left done d within ∙ ap (λ y. y ∷ drop (suc done) left) (sym is) in
    let left_between = AreBetween-rest 0 (2 ^ 64 - 1) front left (subst AreDisjoint parted.joined disjoint) in
    let between = AreBetween-rest 0 (2 ^ 64 - 1) (take done left) (drop done left) (subst AreDisjoint (sym (take-append-drop done left)) left_between) in
    let rest_between : AreBetween 0 (2 ^ 64 - 1) (x ∷ drop (suc done) left) = subst (AreBetween 0 (2 ^ 64 - 1)) rest between in
    OverSoFar-end lo hi spans front left done count disjoint some parted
    (subst (AllByRecursion (λ y. hi ≤ y.lo)) (sym rest) (starts hi (2 ^ 64 - 1) (x ∷ drop (suc done) left) (last, rest_between.1, rest_between.2)))
    so_far
