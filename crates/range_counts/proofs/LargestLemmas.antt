-- The largest hits between two addresses, step by step.
use Rattle.std.proofs.Common.{◌≡◌, ℕ, suc, ◌^◌, ◌<◌, ◌≤◌, max, List, sym, ap, ◌∙◌, arith, inl, inr, length, take, get_or}
use Rattle.std.specs.List.{AllWithin}
use Rattle.std.proofs.lemmas.Bool.{cases_lt}
use Rattle.std.proofs.lemmas.List.{get_or_default}
use Rattle.profile_model.specs.declared.step.Step.{Step}
use Rattle.profile_model.specs.Hits.{IsLargestIn}
use Rattle.profile_model.specs.Steps.{ground, hits_by, hits_on, last_of}
use Rattle.range_counts.specs.Steps.{Ascend, IsFirstAbove}
use Rattle.range_counts.proofs.StepLemmas.{none, above, first_above-at, hits-behind, hits-from, hits_by-is}

-- the steps from `next` up to `end` were gone through
pub record LargestSoFar (xs : List Step) (next hi end largest : ℕ) : Type 0 where
  pub from : next ≤ end
  pub within : end ≤ length xs
  pub passed : AllWithin (λ step. step.at < hi) xs next end
  pub attained : (lo : ℕ) → lo < hi → IsFirstAbove xs next lo → (a : ℕ) × (lo ≤ a) × (a < hi) × (hits_on xs a ≡ largest)
  pub bounded : (lo : ℕ) → lo < hi → IsFirstAbove xs next lo → (a : ℕ) → lo ≤ a → a < hi → (end < length xs → a < (get_or xs end none).at) → hits_on xs a ≤ largest

pub LargestSoFar-none : (xs : List Step) (next hi largest : ℕ) → Ascend xs → next ≤ length xs → largest ≡ (last_of ground (take next xs)).hits → LargestSoFar xs next hi next largest
LargestSoFar-none xs next hi largest ascend within is = record {
  from = omega arith;
  within = within;
  passed = λ k d from below. absurd (omega (arith, from, below));
  attained = λ lo some first. (lo, omega arith, some, hits-behind xs next lo first ∙ sym is);
  bounded = λ lo some first a low high before.
      let so = first_above-at xs next a ascend (λ k d from below. omega (arith, low, first.passed k d from below)) within before in
      omega (arith, is, hits-behind xs next a so);
}

pub LargestSoFar-more : (xs : List Step) (next hi end largest : ℕ) → Ascend xs → LargestSoFar xs next hi end largest → end < length xs → (get_or xs end none).at < hi → LargestSoFar xs next hi (suc end) (max largest (get_or xs end none).hits)
LargestSoFar-more xs next hi end largest ascend so_far inside below_hi = record {
  from = omega (arith, so_far.from);
  within = omega (arith, inside);
  passed = λ k d from below. elim (cases_lt k end) [
    | inl less ↦ so_far.passed k d from less
    | inr not ↦
        let same : k ≡ end = omega (arith, not, below) in
        omega (arith, below_hi, ap (λ j. (get_or xs j d).at) same, ap (λ (s : Step). s.at) (get_or_default xs end d none inside))
  ];
  attained = λ lo some first. elim (cases_lt largest (get_or xs end none).hits) [
    | inl more ↦ (
      (get_or xs end none).at,
      omega (arith, first.ahead end none so_far.from inside),
      below_hi,
      hits-from xs end (get_or xs end none).at ascend inside (omega arith) (λ next_inside. above 0 (2 ^ 64) xs ascend end (suc end) none (omega arith) next_inside) ∙ omega (arith, more),
    )
    | inr less ↦
        let old = so_far.attained lo some first in
        (old.0, old.1, old.2, old.3 ∙ omega (arith, less))
  ];
  bounded = λ lo some first a low high before. elim (cases_lt a (get_or xs end none).at) [
    | inl under ↦ omega (arith, so_far.bounded lo some first a low high (λ _. under))
    | inr over ↦ omega (arith, hits-from xs end a ascend inside over before)
  ];
}

pub LargestSoFar-all : (xs : List Step) (next hi end largest : ℕ) → hi ≤ 2 ^ 64 → LargestSoFar xs next hi end largest → (end < length xs → hi ≤ (get_or xs end none).at)
    → (lo : ℕ) → lo < hi → IsFirstAbove xs next lo → IsLargestIn lo hi (hits_by xs) largest
LargestSoFar-all xs next hi end largest fits so_far past lo some first =
    let found = so_far.attained lo some first in
    record {
      attained = (found.0, found.1, found.2, hits_by-is xs found.0 (omega (arith, found.2, fits)) ∙ found.3);
      bounded = λ a low high.
          omega (arith, hits_by-is xs a (omega (arith, high, fits)), so_far.bounded lo some first a low high (λ inside. omega (arith, high, past inside)));
    }
