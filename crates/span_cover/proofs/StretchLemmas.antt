-- The numbers of stretches.
use Rattle.std.proofs.Common.{◌≡◌, ◌≢◌, ◌↔◌, ℕ, suc, ◌+◌, ◌-◌, ◌^◌, ◌<◌, ◌≤◌, Bool, true, false, List, [], ◌∷◌, Option, None, Some, IsSome, refl, sym, ◌∙◌, arith, length}
use Rattle.std.specs.Prelude.{◌&&◌, not, nat_lt, nat_le}
use Rattle.std.proofs.lemmas.Bool.Decides.{nat_tests}
use Rattle.list_lemmas.proofs.Tests.{by_test}
use Rattle.address_spans.specs.declared.span.Span.{Span}
use Rattle.address_spans.specs.Spans.{holds, owner_at, AreBetween, AreDisjoint}
use Rattle.address_spans.proofs.SpanLemmas.{held, missed-behind, owner-hit, owner-miss, owner-before}
use Rattle.key_types.specs.Places.{IsStretches}
use Rattle.span_cover.specs.Stretches.{Stretched, touch, goes_on, are_stretches, numbered, function_at, number_at}

-- a stretch and the one behind it
pub record Step (x y : Span) (ys : List Span) : Type 0 where
  pub filled : x.lo < x.hi
  pub before : x.hi ≤ y.lo
  pub apart : x.hi ≡ y.lo → x.owner ≢ y.owner
  pub rest : goes_on y ys ≡ true

pub step : (x y : Span) (ys : List Span) → goes_on x (y ∷ ys) ≡ true → Step x y ys
step x y ys on = parts (nat_lt x.lo x.hi) (nat_le x.hi y.lo) (touch x y) (goes_on y ys) refl refl refl refl on
  where
    parts : (a b t r : Bool) → nat_lt x.lo x.hi ≡ a → nat_le x.hi y.lo ≡ b → touch x y ≡ t → goes_on y ys ≡ r → (a && b && not t && r) ≡ true → Step x y ys
    parts true true false true a b t r all = record { filled = grind (arith, nat_tests); before = grind (arith, nat_tests); apart = λ same one. grind (arith, nat_tests); rest = r }
    parts false b t r ea eb et er all = absurd (cc)
    parts true false t r ea eb et er all = absurd (cc)
    parts true true true r ea eb et er all = absurd (cc)
    parts true true false false ea eb et er all = absurd (cc)

pub last : (x : Span) → goes_on x [] ≡ true → (x.lo < x.hi) × (x.hi ≤ 2 ^ 64 - 1)
last x on = (grind (arith, nat_tests), grind (arith, nat_tests))

filled : (x : Span) (xs : List Span) → goes_on x xs ≡ true → x.lo < x.hi
filled x [] on = (last x on).0
filled x (y ∷ ys) on = (step x y ys on).filled

between : (x : Span) (xs : List Span) (from : ℕ) → from ≤ x.lo → goes_on x xs ≡ true → AreBetween from (2 ^ 64 - 1) (x ∷ xs)
between x [] from low on = let e = last x on in (low, e.0, e.1)
between x (y ∷ ys) from low on = let s = step x y ys on in (low, s.filled, between y ys x.hi s.before s.rest)

pub stretches-disjoint : (xs : List Span) → are_stretches xs ≡ true → AreDisjoint xs
stretches-disjoint [] are = omega arith
stretches-disjoint (x ∷ xs) are = between x xs 0 (omega arith) are

-- where a stretch ends none of its function begins
ends : (x : Span) (xs : List Span) → goes_on x xs ≡ true → owner_at xs x.hi ≡ Some x.owner → ⊥
ends x [] on one = absurd (cc)
ends x (y ∷ ys) on one =
    let s = step x y ys on in
    by_test (holds x.hi y)
    (λ hit. s.apart (touching hit s.before) (sym (inner (sym (owner-hit y ys x.hi hit) ∙ one))))
    (λ miss. before_it s miss)
  where
    touching : holds x.hi y ≡ true → x.hi ≤ y.lo → x.hi ≡ y.lo
    touching hit before = grind (arith, nat_tests)

    inner : ◌≡◌ {A = Option ℕ} (Some y.owner) (Some x.owner) → y.owner ≡ x.owner
    inner same = cc

    below : x.hi ≤ y.lo → y.lo < y.hi → holds x.hi y ≡ false → x.hi < y.lo
    below before full miss = grind (arith, nat_tests)

    none_some : ◌≡◌ {A = Option ℕ} None (Some x.owner) → ⊥
    none_some same = cc

    before_it : Step x y ys → holds x.hi y ≡ false → ⊥
    before_it s miss =
        let f = filled y ys s.rest in
        let low : x.hi < y.lo = below s.before f miss in
        let none : owner_at (y ∷ ys) x.hi ≡ None = owner-before y.lo (2 ^ 64 - 1) x.hi (y ∷ ys) (between y ys y.lo (omega arith) s.rest) low in
        none_some (sym none ∙ one)

-- numbers count up
at_least : (xs : List Span) (n a k : ℕ) → owner_at (numbered n xs) a ≡ Some k → n ≤ k
at_least [] n a k is = absurd (cc)
at_least (x ∷ xs) n a k is = by_test (holds a x)
    (λ hit. here (sym (owner-hit (record { lo = x.lo; hi = x.hi; owner = n }) (numbered (suc n) xs) a hit) ∙ is))
    (λ miss. let more = at_least xs (suc n) a k (sym (owner-miss (record { lo = x.lo; hi = x.hi; owner = n }) (numbered (suc n) xs) a miss) ∙ is) in omega arith)
  where
    here : ◌≡◌ {A = Option ℕ} (Some n) (Some k) → n ≤ k
    here same = let e : n ≡ k = cc in omega (arith, e)

pub there : (xs : List Span) (n a : ℕ) → IsSome (owner_at (numbered n xs) a) ↔ IsSome (owner_at xs a)
there [] n a = (λ h. h, λ h. h)
there (x ∷ xs) n a = by_test (holds a x)
    (λ hit.
    let one = owner-hit (record { lo = x.lo; hi = x.hi; owner = n }) (numbered (suc n) xs) a hit in
    let other = owner-hit x xs a hit in
    (λ _. rw other refl, λ _. rw one refl))
    (λ miss.
    let one = owner-miss (record { lo = x.lo; hi = x.hi; owner = n }) (numbered (suc n) xs) a miss in
    let other = owner-miss x xs a miss in
    let more = there xs (suc n) a in
    (λ h. rw other (more.0 (rw one at h)), λ h. rw one (more.1 (rw other at h))))

some_owner : {X : Type 0} (o : Option X) → o ≡ None → IsSome o → ⊥
some_owner None is h = absurd (cc)
some_owner (Some x) is h = cc

-- an address that these hold and their first one does not is behind that one
behind : (x : Span) (xs : List Span) (a : ℕ) → goes_on x xs ≡ true → holds a x ≡ false → IsSome (owner_at (x ∷ xs) a) → x.hi ≤ a
behind x xs a on miss held = either (nat_lt a x.lo) refl
  where
    either : (t : Bool) → nat_lt a x.lo ≡ t → x.hi ≤ a
    either true low = absurd (some_owner _ (owner-before x.lo (2 ^ 64 - 1) a (x ∷ xs) (between x xs x.lo (omega arith) on) (below low)) held)
      where
        below : nat_lt a x.lo ≡ true → a < x.lo
        below low = grind (arith, nat_tests)
    either false high = grind (arith, nat_tests)

abbrev Same : (x : Span) (xs : List Span) (n a b : ℕ) → Type 0
Same x xs n a b = (owner_at (numbered n (x ∷ xs)) a ≡ owner_at (numbered n (x ∷ xs)) b)
    ↔ ((c : ℕ) → a ≤ c → c ≤ b → owner_at (x ∷ xs) c ≡ owner_at (x ∷ xs) a)

-- both addresses in one stretch
in_one : (x : Span) (xs : List Span) (n a b : ℕ) → holds a x ≡ true → holds b x ≡ true → Same x xs n a b
in_one x xs n a b a_in b_in = (
  λ _ c low high. owner-hit x xs c (inside c low high) ∙ sym (owner-hit x xs a a_in),
  λ _. owner-hit (record { lo = x.lo; hi = x.hi; owner = n }) (numbered (suc n) xs) a a_in ∙ sym (owner-hit (record { lo = x.lo; hi = x.hi; owner = n }) (numbered (suc n) xs) b b_in),
)
  where
    inside : (c : ℕ) → a ≤ c → c ≤ b → holds c x ≡ true
    inside c low high = grind (arith, nat_tests)

-- the first address in a stretch that does not hold the second
in_first : (x : Span) (xs : List Span) (n a b : ℕ) → goes_on x xs ≡ true → holds a x ≡ true → holds b x ≡ false → a ≤ b → Same x xs n a b
in_first x xs n a b on a_in b_out up = (
  λ same. absurd (counted (at_least xs (suc n) b n (sym (owner-miss (record { lo = x.lo; hi = x.hi; owner = n }) (numbered (suc n) xs) b b_out) ∙ sym same ∙ owner-hit (record { lo = x.lo; hi = x.hi; owner = n }) (numbered (suc n) xs) a a_in))),
  λ all. absurd (ends x xs on (sym (owner-miss x xs x.hi (missed-behind x x.hi (omega arith))) ∙ all x.hi reached passed ∙ owner-hit x xs a a_in)),
)
  where
    counted : suc n ≤ n → ⊥
    counted more = omega arith

    reached : a ≤ x.hi
    reached = grind (arith, nat_tests)

    passed : x.hi ≤ b
    passed = grind (arith, nat_tests)

-- neither in the first stretch
in_rest : (x y : Span) (ys : List Span) (n a b : ℕ) → x.hi ≤ a → a ≤ b → Same y ys (suc n) a b → Same x (y ∷ ys) n a b
in_rest x y ys n a b past up same =
    let a_out = missed-behind x a past in
    let b_out = missed-behind x b (omega arith) in
    let a_is = owner-miss (record { lo = x.lo; hi = x.hi; owner = n }) (numbered (suc n) (y ∷ ys)) a a_out in
    let b_is = owner-miss (record { lo = x.lo; hi = x.hi; owner = n }) (numbered (suc n) (y ∷ ys)) b b_out in (
      λ one c low high. owner-miss x (y ∷ ys) c (missed-behind x c (omega arith)) ∙ same.0 (sym a_is ∙ one ∙ b_is) c low high ∙ sym (owner-miss x (y ∷ ys) a a_out),
      λ all. a_is ∙ same.1 (λ c low high. sym (owner-miss x (y ∷ ys) c (missed-behind x c (omega arith))) ∙ all c low high ∙ owner-miss x (y ∷ ys) a a_out) ∙ sym b_is,
    )

together : (x : Span) (xs : List Span) (n a b : ℕ) → goes_on x xs ≡ true → IsSome (owner_at (x ∷ xs) a) → IsSome (owner_at (x ∷ xs) b) → a ≤ b → Same x xs n a b
together x [] n a b on a_held b_held up = by_test (holds a x)
    (λ a_in. by_test (holds b x) (λ b_in. in_one x [] n a b a_in b_in) (λ b_out. in_first x [] n a b on a_in b_out up))
    (λ a_out. absurd (some_owner _ (owner-miss x [] a a_out) a_held))
together x (y ∷ ys) n a b on a_held b_held up = by_test (holds a x)
    (λ a_in. by_test (holds b x) (λ b_in. in_one x (y ∷ ys) n a b a_in b_in) (λ b_out. in_first x (y ∷ ys) n a b on a_in b_out up))
    (λ a_out.
    let past = behind x (y ∷ ys) a on a_out a_held in
    let b_out = missed-behind x b (omega (arith, past)) in
    in_rest x y ys n a b past up
    (together y ys (suc n) a b (step x y ys on).rest (rw (owner-miss x (y ∷ ys) a a_out) at a_held) (rw (owner-miss x (y ∷ ys) b b_out) at b_held) up))

all_together : (xs : List Span) (a b : ℕ) → are_stretches xs ≡ true → IsSome (owner_at xs a) → IsSome (owner_at xs b) → a ≤ b
    → (owner_at (numbered 0 xs) a ≡ owner_at (numbered 0 xs) b) ↔ ((c : ℕ) → a ≤ c → c ≤ b → owner_at xs c ≡ owner_at xs a)
all_together [] a b are a_held b_held up = absurd (cc)
all_together (x ∷ xs) a b are a_held b_held up = together x xs 0 a b are a_held b_held up

pub are_told : (s : Stretched) → IsStretches (function_at s) (number_at s)
are_told s = record {
  there = λ a. there s.spans 0 a;
  together = λ a b a_held b_held up. all_together s.spans a b s.are a_held b_held up;
}

numbered-between : (n from : ℕ) (xs : List Span) → AreBetween from (2 ^ 64 - 1) xs → AreBetween from (2 ^ 64 - 1) (numbered n xs)
numbered-between n from [] all = all
numbered-between n from (x ∷ xs) all = (all.0, all.1, numbered-between (suc n) x.hi xs all.2)

pub numbered-disjoint : (n : ℕ) (xs : List Span) → AreDisjoint xs → AreDisjoint (numbered n xs)
numbered-disjoint n xs all = numbered-between n 0 xs all

pub number-below : (xs : List Span) (n a k : ℕ) → Some k ≡ owner_at (numbered n xs) a → k < n + length xs
number-below [] n a k is = absurd (cc)
number-below (x ∷ xs) n a k is = by_test (holds a x)
    (λ hit. here (is ∙ owner-hit (record { lo = x.lo; hi = x.hi; owner = n }) (numbered (suc n) xs) a hit))
    (λ miss. let more = number-below xs (suc n) a k (is ∙ owner-miss (record { lo = x.lo; hi = x.hi; owner = n }) (numbered (suc n) xs) a miss) in omega (arith, more))
  where
    here : ◌≡◌ {A = Option ℕ} (Some k) (Some n) → k < n + suc (length xs)
    here same = let e : k ≡ n = cc in omega (arith, e)
