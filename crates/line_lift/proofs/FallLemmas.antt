-- Spans in the order of their owners, the largest first.
use Rattle.std.proofs.Common.{◌≡◌, ℕ, suc, ◌≤◌, List, [], ◌∷◌, ◌++◌, reverse, IsPermutation, refl, sym, ap, subst, ◌∙◌, arith, inl, inr}
use Rattle.std.specs.Bool.{⊤}
use Rattle.std.specs.List.{AllByRecursion}
use Rattle.std.specs.List.Sorted.{IsNonDecreasingBy}
use Rattle.std.proofs.lemmas.Bool.{true≢false}
use Rattle.std.proofs.lemmas.Grind.{reverse_onto}
use Rattle.std.proofs.lemmas.List.Elements.{recursion_from_All}
use Rattle.std.proofs.lemmas.List.Sorted.{IsPermutation-reverse, IsPermutation-sym, IsPermutation-trans}
use Rattle.list_lemmas.proofs.Tests.{by_test}
use Rattle.address_spans.proofs.SpanLemmas.{owner-hit, owner-miss}
use Rattle.address_spans.specs.Spans.{holds, owner_at}
use Rattle.address_spans.specs.declared.span.Span.{Span}
use Rattle.line_lift.specs.Largest.{IsLargest}
use Rattle.line_lift.specs.Spans.{IsOwnerOver}
use Rattle.line_lift.proofs.AmongLemmas.{all_append, among_all, among_one, among_permuted, one_among}
use Rattle.line_lift.proofs.LargestLemmas.{largest_of_larger}

-- no owner is above one before it, or below
abbrev Fall : List Span → Type 0
Fall [] = ⊤
Fall (x ∷ xs) = AllByRecursion (λ y. y.owner ≤ x.owner) xs × Fall xs

abbrev Rise : List Span → Type 0
Rise [] = ⊤
Rise (x ∷ xs) = AllByRecursion (λ y. x.owner ≤ y.owner) xs × Rise xs

rises : (xs : List Span) → IsNonDecreasingBy (λ span. span.owner) xs → Rise xs
rises [] up = tt
rises (x ∷ xs) up = (
  recursion_from_All (λ y. x.owner ≤ y.owner) xs (λ k d within. up 0 (suc k) d (omega arith) (omega (arith, within))),
  rises xs (λ i j d before within. up (suc i) (suc j) d (omega (arith, before)) (omega (arith, within))),
)

all_reversed : (P : Span → Type 0) (xs : List Span) → AllByRecursion P xs → AllByRecursion P (reverse xs)
all_reversed P [] all = tt
all_reversed P (x ∷ xs) all = subst (AllByRecursion P) (sym (reverse_onto xs x [])) (all_append P (reverse xs) (x ∷ []) (all_reversed P xs all.1) (all.0, tt))

falls_push : (xs : List Span) (y : Span) → Fall xs → AllByRecursion (λ x. y.owner ≤ x.owner) xs → Fall (xs ++ y ∷ [])
falls_push [] y falls all = (tt, tt)
falls_push (x ∷ xs) y falls all = (all_append (λ z. z.owner ≤ x.owner) xs (y ∷ []) falls.0 (all.0, tt), falls_push xs y falls.1 all.1)

falls_reversed : (xs : List Span) → Rise xs → Fall (reverse xs)
falls_reversed [] up = tt
falls_reversed (x ∷ xs) up = subst Fall (sym (reverse_onto xs x [])) (falls_push (reverse xs) x (falls_reversed xs up.1) (all_reversed (λ y. x.owner ≤ y.owner) xs up.0))

-- the first one that holds an address has the largest owner
first_is_largest : (xs : List Span) (a : ℕ) → Fall xs → IsLargest (IsOwnerOver xs a) (owner_at xs a)
first_is_largest [] a falls = λ n over. over.1
first_is_largest (x ∷ xs) a falls = by_test (holds a x)
    (λ hit. subst (IsLargest (IsOwnerOver (x ∷ xs) a)) (sym (owner-hit x xs a hit)) (record {
      attained = (x, inl refl, hit, refl);
      bounded = λ n over. elim over.1 as (λ _. n ≤ x.owner) [
        | inl e ↦ let same = ap (λ (s : Span). s.owner) e in omega (arith, same, over.3)
        | inr r ↦ let less = among_all (λ (y : Span). y.owner ≤ x.owner) over.0 xs falls.0 (one_among over.0 xs r) in omega (arith, less, over.3)
      ];
    }))
    (λ miss. subst (IsLargest (IsOwnerOver (x ∷ xs) a)) (sym (owner-miss x xs a miss))
    (largest_of_larger (IsOwnerOver xs a) (IsOwnerOver (x ∷ xs) a) (owner_at xs a)
    (λ n over. (over.0, inr over.1, over.2, over.3))
    (λ n over. (
      n,
      elim over.1 as (λ _. IsOwnerOver xs a n) [
        | inl e ↦ absurd (true≢false (sym over.2 ∙ ap (holds a) e ∙ miss))
        | inr r ↦ (over.0, r, over.2, over.3)
      ],
      omega arith,
    ))
    (first_is_largest xs a falls.1)))

owner_permuted : (xs ys : List Span) (a n : ℕ) → IsPermutation xs ys → IsOwnerOver ys a n → IsOwnerOver xs a n
owner_permuted xs ys a n moved over = (over.0, among_one over.0 xs (among_permuted over.0 xs ys moved (one_among over.0 ys over.1)), over.2, over.3)

-- Spans that are sorted by owners and turned round have at each address the largest owner.
pub largest_is_first : (spans sorted made : List Span) → IsPermutation spans sorted → IsNonDecreasingBy (λ span. span.owner) sorted
    → ((a : ℕ) → owner_at made a ≡ owner_at (reverse sorted) a) → (a : ℕ) → IsLargest (IsOwnerOver spans a) (owner_at made a)
largest_is_first spans sorted made moved up same a =
    let turned : IsPermutation spans (reverse sorted) = IsPermutation-trans spans sorted (reverse sorted) moved (IsPermutation-reverse sorted) in
    subst (IsLargest (IsOwnerOver spans a)) (sym (same a))
    (largest_of_larger (IsOwnerOver (reverse sorted) a) (IsOwnerOver spans a) (owner_at (reverse sorted) a)
    (λ n over. owner_permuted spans (reverse sorted) a n turned over)
    (λ n over. (n, owner_permuted (reverse sorted) spans a n (IsPermutation-sym spans (reverse sorted) turned) over, omega arith))
    (first_is_largest (reverse sorted) a (falls_reversed sorted (rises sorted up))))
