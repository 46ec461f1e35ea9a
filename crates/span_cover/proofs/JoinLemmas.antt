-- Spans with those that touch made one.
use Rattle.std.proofs.Common.{◌≡◌, ℕ, ◌-◌, ◌^◌, ◌<◌, ◌≤◌, true, false, List, [], ◌∷◌, Some, refl, sym, ap, ◌∙◌, arith}
use Rattle.std.specs.Prelude.{nat_lt, nat_le}
use Rattle.std.proofs.lemmas.Bool.Decides.{nat_tests}
use Rattle.list_lemmas.proofs.Tests.{by_test}
use Rattle.address_spans.specs.declared.span.Span.{Span}
use Rattle.address_spans.specs.Spans.{holds, owner_at, AreBetween, AreDisjoint}
use Rattle.address_spans.proofs.SpanLemmas.{held, owner-hit, owner-miss}
use Rattle.span_cover.specs.Stretches.{touch, both, joined_on, joined, goes_on, are_stretches}

pub touch-true : (x y : Span) → touch x y ≡ true → (x.hi ≡ y.lo) × (x.owner ≡ y.owner)
touch-true x y t = grind (arith, nat_tests)

-- what the pieces of a join come to
pub joined_on-touch : (x y : Span) (ys : List Span) → touch x y ≡ true → joined_on x (y ∷ ys) ≡ joined_on (both x y) ys
joined_on-touch x y ys t = rw t refl

pub joined_on-apart : (x y : Span) (ys : List Span) → touch x y ≡ false → joined_on x (y ∷ ys) ≡ x ∷ joined_on y ys
joined_on-apart x y ys t = rw t refl

-- a stretch and those behind it, from its parts
pub goes_on-cons : (x y : Span) (ys : List Span) → x.lo < x.hi → x.hi ≤ y.lo → touch x y ≡ false → goes_on y ys ≡ true → goes_on x (y ∷ ys) ≡ true
goes_on-cons x y ys filled before apart rest =
    let a : nat_lt x.lo x.hi ≡ true = grind (arith, nat_tests) in
    let b : nat_le x.hi y.lo ≡ true = grind (arith, nat_tests) in
    rw (a, b, apart, rest) refl

pub goes_on-end : (x : Span) → x.lo < x.hi → x.hi ≤ 2 ^ 64 - 1 → goes_on x [] ≡ true
goes_on-end x filled below = grind (arith, nat_tests)

-- a joined list behind a stretch
joined-follows : (p x : Span) (xs : List Span) → p.lo < p.hi → p.hi ≤ x.lo → touch p x ≡ false → x.lo < x.hi → AreBetween x.hi (2 ^ 64 - 1) xs
    → goes_on p (joined_on x xs) ≡ true
joined-follows p x [] filled before apart held between = goes_on-cons p x [] filled before apart (goes_on-end x held between)
joined-follows p x (y ∷ ys) filled before apart held between = by_test (touch x y)
    (λ t. ap (goes_on p) (joined_on-touch x y ys t) ∙ joined-follows p (both x y) ys filled before apart (omega (arith, between.0, between.1)) between.2)
    (λ t. ap (goes_on p) (joined_on-apart x y ys t) ∙ goes_on-cons p x (joined_on y ys) filled before apart (joined-follows x y ys held between.0 t between.1 between.2))

joined_on-stretches : (x : Span) (xs : List Span) → x.lo < x.hi → AreBetween x.hi (2 ^ 64 - 1) xs → are_stretches (joined_on x xs) ≡ true
joined_on-stretches x [] held between = goes_on-end x held between
joined_on-stretches x (y ∷ ys) held between = by_test (touch x y)
    (λ t. ap are_stretches (joined_on-touch x y ys t) ∙ joined_on-stretches (both x y) ys (omega (arith, between.0, between.1)) between.2)
    (λ t. ap are_stretches (joined_on-apart x y ys t) ∙ joined-follows x y ys held between.0 t between.1 between.2)

pub joined-stretches : (xs made : List Span) → AreDisjoint xs → made ≡ joined xs → are_stretches made ≡ true
joined-stretches [] made disjoint is = ap are_stretches is
joined-stretches (x ∷ xs) made disjoint is = ap are_stretches is ∙ joined_on-stretches x xs disjoint.1 disjoint.2

-- the owners are as before
both-owner : (x y : Span) (ys : List Span) (a : ℕ) → x.lo < x.hi → y.lo < y.hi → touch x y ≡ true → owner_at (both x y ∷ ys) a ≡ owner_at (x ∷ y ∷ ys) a
both-owner x y ys a x_held y_held t =
    let same = touch-true x y t in
    by_test (holds a x)
    (λ hit. owner-hit (both x y) ys a (wide hit same.0) ∙ sym (owner-hit x (y ∷ ys) a hit))
    (λ miss. by_test (holds a y)
    (λ hit. owner-hit (both x y) ys a (behind hit same.0) ∙ ap Some same.1 ∙ sym (owner-miss x (y ∷ ys) a miss ∙ owner-hit y ys a hit))
    (λ none. owner-miss (both x y) ys a (neither miss none same.0) ∙ sym (owner-miss x (y ∷ ys) a miss ∙ owner-miss y ys a none)))
  where
    wide : holds a x ≡ true → x.hi ≡ y.lo → holds a (both x y) ≡ true
    wide hit same = grind (arith, nat_tests)

    behind : holds a y ≡ true → x.hi ≡ y.lo → holds a (both x y) ≡ true
    behind hit same = grind (arith, nat_tests)

    neither : holds a x ≡ false → holds a y ≡ false → x.hi ≡ y.lo → holds a (both x y) ≡ false
    neither miss none same = grind (arith, nat_tests)

cons-owner : (x : Span) (xs ys : List Span) (a : ℕ) → owner_at xs a ≡ owner_at ys a → owner_at (x ∷ xs) a ≡ owner_at (x ∷ ys) a
cons-owner x xs ys a same = by_test (holds a x)
    (λ hit. owner-hit x xs a hit ∙ sym (owner-hit x ys a hit))
    (λ miss. owner-miss x xs a miss ∙ same ∙ sym (owner-miss x ys a miss))

joined_on-owner : (x : Span) (xs : List Span) (a : ℕ) → x.lo < x.hi → AreBetween x.hi (2 ^ 64 - 1) xs → owner_at (joined_on x xs) a ≡ owner_at (x ∷ xs) a
joined_on-owner x [] a held between = refl
joined_on-owner x (y ∷ ys) a held between = by_test (touch x y)
    (λ t. ap (λ (ss : List Span). owner_at ss a) (joined_on-touch x y ys t)
    ∙ joined_on-owner (both x y) ys a (omega (arith, between.0, between.1)) between.2
    ∙ both-owner x y ys a held between.1 t)
    (λ t. ap (λ (ss : List Span). owner_at ss a) (joined_on-apart x y ys t)
    ∙ cons-owner x (joined_on y ys) (y ∷ ys) a (joined_on-owner y ys a between.1 between.2))

pub joined-owner : (xs made : List Span) (a : ℕ) → AreDisjoint xs → made ≡ joined xs → owner_at made a ≡ owner_at xs a
joined-owner [] made a disjoint is = ap (λ (ss : List Span). owner_at ss a) is
joined-owner (x ∷ xs) made a disjoint is = ap (λ (ss : List Span). owner_at ss a) is ∙ joined_on-owner x xs a disjoint.1 disjoint.2
