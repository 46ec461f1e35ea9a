-- The last step that a walk passed.
use Rattle.std.proofs.Common.{ℕ, zero, suc, ◌<◌, ◌≤◌, List, ap, arith, inl, inr, length, take}
use Rattle.std.specs.List.{AllWithin}
use Rattle.std.proofs.lemmas.Bool.{cases_lt}
use Rattle.profile_model.specs.declared.step.Step.{Step}
use Rattle.profile_model.specs.Steps.{ground, last_of}
use Rattle.range_counts.specs.Steps.{Ascend, IsFirstAbove}
use Rattle.range_counts.proofs.StepLemmas.{none, last_of-take, not_below_before}

-- where the last of the first n is not above an address, none of them is
pub passed-last : (xs : List Step) (n a : ℕ) → Ascend xs → n ≤ length xs → (last_of ground (take n xs)).at ≤ a → AllWithin (λ step. step.at ≤ a) xs 0 n
passed-last xs zero a ascend within low k d from below = absurd (omega (arith, below))
passed-last xs (suc n) a ascend within low k d from below =
    omega (arith, low, ap (λ (s : Step). s.at) (last_of-take ground xs n d (omega (arith, within))), not_below_before xs ascend k n d (omega (arith, below)) (omega (arith, within)))

-- the last of those that lie below an address does
pub last-passed : (xs : List Step) (next end lo hi : ℕ) → IsFirstAbove xs next lo → lo < hi → end ≤ length xs → AllWithin (λ step. step.at < hi) xs next end → (last_of ground (take end xs)).at ≤ hi
last-passed xs next zero lo hi first some within passed = omega arith
last-passed xs next (suc n) lo hi first some within passed =
    let last = ap (λ (s : Step). s.at) (last_of-take ground xs n none (omega (arith, within))) in
    elim (cases_lt n next) [
      | inl less ↦ omega (arith, last, some, first.passed n none (omega arith) less)
      | inr not ↦ omega (arith, last, passed n none not (omega arith))
    ]
