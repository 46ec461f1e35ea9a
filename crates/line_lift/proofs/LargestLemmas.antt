-- The largest of some counts.
use Rattle.std.proofs.Common.{◌≡◌, ◌⊎◌, ℕ, ◌≤◌, max, Option, None, Some, refl, subst, arith, inl, inr}
use Rattle.std.proofs.lemmas.Bool.{cases_lt}
use Rattle.line_lift.specs.Largest.{IsLargest, larger}

-- the largest of two kinds of counts is the larger of the largest of each
pub largest_of_both : (R S U : ℕ → Type 0) (count other : Option ℕ) → ((n : ℕ) → R n → U n) → ((n : ℕ) → S n → U n) → ((n : ℕ) → U n → R n ⊎ S n)
    → IsLargest R count → IsLargest S other → IsLargest U (larger count other)
largest_of_both R S U None None left right either is also = λ n u. elim (either n u) as (λ _. ⊥) [ inl r ↦ is n r | inr s ↦ also n s ]
largest_of_both R S U None (Some m) left right either is also = record {
  attained = right m also.attained;
  bounded = λ n u. elim (either n u) as (λ _. n ≤ m) [ inl r ↦ absurd (is n r) | inr s ↦ also.bounded n s ];
}
largest_of_both R S U (Some k) None left right either is also = record {
  attained = left k is.attained;
  bounded = λ n u. elim (either n u) as (λ _. n ≤ k) [ inl r ↦ is.bounded n r | inr s ↦ absurd (also n s) ];
}
largest_of_both R S U (Some k) (Some m) left right either is also = record {
  attained = elim (cases_lt k m) [
    | inl less ↦ let same : m ≡ max k m = omega arith in subst U same (right m also.attained)
    | inr not ↦ let same : k ≡ max k m = omega arith in subst U same (left k is.attained)
  ];
  bounded = λ n u. elim (either n u) as (λ _. n ≤ max k m) [
    | inl r ↦ let b = is.bounded n r in omega arith
    | inr s ↦ let b = also.bounded n s in omega arith
  ];
}

-- counts among others that have one as large have the same largest
pub largest_of_larger : (R S : ℕ → Type 0) (count : Option ℕ) → ((n : ℕ) → R n → S n) → ((n : ℕ) → S n → (m : ℕ) × R m × (n ≤ m)) → IsLargest R count → IsLargest S count
largest_of_larger R S None inside reached is = λ n s. let found = reached n s in is found.0 found.1
largest_of_larger R S (Some k) inside reached is = record {
  attained = inside k is.attained;
  bounded = λ n s. let found = reached n s in omega (arith, found.2, is.bounded found.0 found.1);
}

-- one count is the largest
pub largest_of_one : (c : ℕ) → IsLargest (λ n. n ≡ c) (Some c)
largest_of_one c = record { attained = refl; bounded = λ n e. omega arith }
