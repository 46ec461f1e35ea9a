-- Sums and facts over lists of arcs that stand one behind the other.
use Rattle.std.proofs.Common.{◌≡◌, ℕ, ◌+◌, Bool, false, List, [], ◌∷◌, ◌++◌, length, refl, arith}
use Rattle.std.specs.List.{list_any}
use Rattle.std.proofs.lemmas.Bool.{or_parts}
use Rattle.flow_model.specs.declared.arc.Arc.{Arc}
use Rattle.flow_model.specs.Circulation.{EachArc, sum_where}

pub sum_where-append : (p : Arc → Bool) (xs ys : List Arc) (ns ms : List ℕ) → length ns ≡ length xs
    → sum_where p (xs ++ ys) (ns ++ ms) ≡ sum_where p xs ns + sum_where p ys ms
sum_where-append p [] ys [] ms same = omega arith
sum_where-append p [] ys (n ∷ ns) ms same = absurd (omega (arith, same))
sum_where-append p (x ∷ xs) ys [] ms same = absurd (omega (arith, same))
sum_where-append p (x ∷ xs) ys (n ∷ ns) ms same =
    let more = sum_where-append p xs ys ns ms (omega (arith, same)) in omega (arith, more)

pub sum_where_none : (p : Arc → Bool) (xs : List Arc) (ns : List ℕ) → list_any p xs ≡ false → sum_where p xs ns ≡ 0
sum_where_none p [] ns none = refl
sum_where_none p (x ∷ xs) [] none = refl
sum_where_none p (x ∷ xs) (n ∷ ns) none =
    let parts = or_parts (p x) (list_any p xs) none in
    let here : p x ≡ false = parts.0 in
    let more = sum_where_none p xs ns parts.1 in
    rw here (omega (arith, more))

pub each_split : (P : Arc → ℕ → Type 0) (xs ys : List Arc) (ns ms : List ℕ) → length ns ≡ length xs
    → EachArc P (xs ++ ys) (ns ++ ms) → EachArc P xs ns × EachArc P ys ms
each_split P [] ys [] ms same each = (tt, each)
each_split P [] ys (n ∷ ns) ms same each = absurd (omega (arith, same))
each_split P (x ∷ xs) ys [] ms same each = absurd (omega (arith, same))
each_split P (x ∷ xs) ys (n ∷ ns) ms same each =
    let more = each_split P xs ys ns ms (omega (arith, same)) each.1 in ((each.0, more.0), more.1)

pub each_join : (P : Arc → ℕ → Type 0) (xs ys : List Arc) (ns ms : List ℕ)
    → EachArc P xs ns → EachArc P ys ms → EachArc P (xs ++ ys) (ns ++ ms)
each_join P [] ys [] ms front back = back
each_join P [] ys (n ∷ ns) ms front back = absurd front
each_join P (x ∷ xs) ys [] ms front back = absurd front
each_join P (x ∷ xs) ys (n ∷ ns) ms front back = (front.0, each_join P xs ys ns ms front.1 back)

pub each-length : (P : Arc → ℕ → Type 0) (xs : List Arc) (ns : List ℕ) → EachArc P xs ns → length ns ≡ length xs
each-length P [] [] each = refl
each-length P [] (n ∷ ns) each = absurd each
each-length P (x ∷ xs) [] each = absurd each
each-length P (x ∷ xs) (n ∷ ns) each = let more = each-length P xs ns each.1 in omega (arith, more)

-- two facts of each arc show a third
pub each_from_both : (P Q R : Arc → ℕ → Type 0) → ((x : Arc) (n : ℕ) → P x n → Q x n → R x n)
    → (xs : List Arc) (ns : List ℕ) → EachArc P xs ns → EachArc Q xs ns → EachArc R xs ns
each_from_both P Q R f [] [] each also = tt
each_from_both P Q R f [] (n ∷ ns) each also = absurd each
each_from_both P Q R f (x ∷ xs) [] each also = absurd each
each_from_both P Q R f (x ∷ xs) (n ∷ ns) each also =
    (f x n each.0 also.0, each_from_both P Q R f xs ns each.1 also.1)

pub each_from : (P Q : Arc → ℕ → Type 0) → ((x : Arc) (n : ℕ) → P x n → Q x n)
    → (xs : List Arc) (ns : List ℕ) → EachArc P xs ns → EachArc Q xs ns
each_from P Q f xs ns each = each_from_both P P Q (λ x n p same. f x n p) xs ns each each
