-- Spans one behind the other, and their owners.
use Rattle.std.proofs.Common.{◌≡◌, ℕ, ◌<◌, ◌≤◌, true, false, List, [], ◌∷◌, ◌++◌, Option, None, Some, refl, ap, ◌∙◌, arith}
use Rattle.std.specs.Prelude.{find}
use Rattle.std.specs.Option.{option_map, option_or}
use Rattle.std.proofs.lemmas.Bool.Decides.{nat_tests}
use Rattle.std.proofs.lemmas.List.Folds.{find-append}
use Rattle.address_spans.specs.declared.span.Span.{Span}
use Rattle.address_spans.specs.Spans.{holds, owner_at, AreBetween}

pub held : (x : Span) (a : ℕ) → x.lo ≤ a → a < x.hi → holds a x ≡ true
held x a low high = grind (arith, nat_tests)

pub missed-before : (x : Span) (a : ℕ) → a < x.lo → holds a x ≡ false
missed-before x a before = grind (arith, nat_tests)

pub missed-behind : (x : Span) (a : ℕ) → x.hi ≤ a → holds a x ≡ false
missed-behind x a behind = grind (arith, nat_tests)

pub owner-hit : (x : Span) (xs : List Span) (a : ℕ) → holds a x ≡ true → owner_at (x ∷ xs) a ≡ Some x.owner
owner-hit x xs a hit = rw hit refl

pub owner-miss : (x : Span) (xs : List Span) (a : ℕ) → holds a x ≡ false → owner_at (x ∷ xs) a ≡ owner_at xs a
owner-miss x xs a miss = rw miss refl

map-or : (f : Span → ℕ) (o p : Option Span) → option_map f (option_or o p) ≡ option_or (option_map f o) (option_map f p)
map-or f None p = refl
map-or f (Some x) p = refl

pub owner-append : (xs ys : List Span) (a : ℕ) → owner_at (xs ++ ys) a ≡ option_or (owner_at xs a) (owner_at ys a)
owner-append xs ys a =
    ap (option_map (λ span. span.owner)) (find-append (holds a) xs ys)
    ∙ map-or (λ span. span.owner) (find (holds a) xs) (find (holds a) ys)

pub reach : (from to : ℕ) (xs : List Span) → AreBetween from to xs → from ≤ to
reach from to [] between = between
reach from to (x ∷ xs) between = omega (arith, between.0, between.1, reach x.hi to xs between.2)

pub owner-before : (from to a : ℕ) (xs : List Span) → AreBetween from to xs → a < from → owner_at xs a ≡ None
owner-before from to a [] between before = refl
owner-before from to a (x ∷ xs) between before =
    owner-miss x xs a (missed-before x a (omega (arith, between.0)))
    ∙ owner-before x.hi to a xs between.2 (omega (arith, between.0, between.1))

pub owner-behind : (from to a : ℕ) (xs : List Span) → AreBetween from to xs → to ≤ a → owner_at xs a ≡ None
owner-behind from to a [] between behind = refl
owner-behind from to a (x ∷ xs) between behind =
    owner-miss x xs a (missed-behind x a (omega (arith, reach x.hi to xs between.2)))
    ∙ owner-behind x.hi to a xs between.2 behind

pub AreBetween-lower : (from lower to : ℕ) (xs : List Span) → AreBetween from to xs → lower ≤ from → AreBetween lower to xs
AreBetween-lower from lower to [] between less = omega arith
AreBetween-lower from lower to (x ∷ xs) between less = (omega (arith, between.0), between.1, between.2)

pub AreBetween-append : (from mid to : ℕ) (xs ys : List Span) → AreBetween from mid xs → AreBetween mid to ys → AreBetween from to (xs ++ ys)
AreBetween-append from mid to [] ys left right = AreBetween-lower mid from to ys right left
AreBetween-append from mid to (x ∷ xs) ys left right = (left.0, left.1, AreBetween-append x.hi mid to xs ys left.2 right)

pub AreBetween-rest : (from to : ℕ) (xs ys : List Span) → AreBetween from to (xs ++ ys) → AreBetween from to ys
AreBetween-rest from to [] ys all = all
AreBetween-rest from to (x ∷ xs) ys all =
    AreBetween-lower x.hi from to ys (AreBetween-rest x.hi to xs ys all.2) (omega (arith, all.0, all.1))
