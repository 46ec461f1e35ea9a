-- Steps in order, and the hits that they tell.
use Rattle.std.proofs.Common.{◌≡◌, ℕ, zero, suc, ◌-◌, ◌^◌, ◌<◌, ◌≤◌, List, [], ◌∷◌, ◌++◌, refl, sym, ap, ◌∙◌, arith, inl, inr, length, take, get_or, lt-ltb}
use Rattle.std.proofs.lemmas.Bool.{cases_lt}
use Rattle.std.proofs.lemmas.List.{get_or_default}
use Rattle.std.specs.List.{AllWithin}
use Rattle.std.specs.List.Sorted.{IsNonDecreasingBy}
use Rattle.std.proofs.Math.Seq.{take-suc}
use Rattle.profile_model.specs.declared.step.Step.{Step}
use Rattle.profile_model.specs.Steps.{ground, hits_by, hits_on, last_of}
use Rattle.range_counts.specs.Steps.{Ascend, AscendBetween, IsFirstAbove}
use Rattle.range_counts.proofs.PartLemmas.{filter_is_take}

-- what a place past the end of a slice reads as
abbrev pub none : Step
none = record { at = 0; hits = 0 }

pub last_of-push : (before : Step) (xs : List Step) (x : Step) → last_of before (xs ++ x ∷ []) ≡ x
last_of-push before [] x = refl
last_of-push before (y ∷ xs) x = last_of-push y xs x

-- the last of the first n + 1 is the one at n
pub last_of-take : (before : Step) (xs : List Step) (n : ℕ) (d : Step) → n < length xs → last_of before (take (suc n) xs) ≡ get_or xs n d
last_of-take before xs n d within = ap (last_of before) (take-suc xs n d within) ∙ last_of-push before (take n xs) (get_or xs n d)

pub last_of-take_before : (before : Step) (xs : List Step) (n m : ℕ) (d : Step) → n ≡ suc m → n ≤ length xs → last_of before (take n xs) ≡ get_or xs m d
last_of-take_before before xs n m d is within =
    ap (λ i. last_of before (take i xs)) is ∙ last_of-take before xs m d (omega (arith, is, within))

pub behind : (xs : List Step) (n : ℕ) (d : Step) → 0 < n → n ≤ length xs → (get_or xs (n - 1) d).hits ≡ (last_of ground (take n xs)).hits
behind xs n d some within = ap (λ (s : Step). s.hits) (sym (last_of-take_before ground xs n (n - 1) d (omega (arith, some)) within))

not_below : (from to : ℕ) (xs : List Step) → AscendBetween from to xs → (j : ℕ) (d : Step) → j < length xs → from ≤ (get_or xs j d).at
not_below from to [] ascend j d within = absurd (omega (arith, within))
not_below from to (x ∷ xs) ascend zero d within = ascend.0
not_below from to (x ∷ xs) ascend (suc j) d within =
    omega (arith, ascend.0, not_below (suc x.at) to xs ascend.1 j d (omega (arith, within)))

-- each step is above those before it
pub above : (from to : ℕ) (xs : List Step) → AscendBetween from to xs → (i j : ℕ) (d : Step) → i < j → j < length xs → (get_or xs i d).at < (get_or xs j d).at
above from to [] ascend i j d before within = absurd (omega (arith, within))
above from to (x ∷ xs) ascend i zero d before within = absurd (omega (arith, before))
above from to (x ∷ xs) ascend zero (suc j) d before within = not_below (suc x.at) to xs ascend.1 j d (omega (arith, within))
above from to (x ∷ xs) ascend (suc i) (suc j) d before within = above (suc x.at) to xs ascend.1 i j d (omega (arith, before)) (omega (arith, within))

pub not_below_before : (xs : List Step) → Ascend xs → (i j : ℕ) (d : Step) → i ≤ j → j < length xs → (get_or xs i d).at ≤ (get_or xs j d).at
not_below_before xs ascend i j d before within = elim (cases_lt i j) [
  | inl less ↦ omega (arith, above 0 (2 ^ 64) xs ascend i j d less within)
  | inr not ↦ let same : i ≡ j = omega (arith, not, before) in omega (arith, ap (λ k. (get_or xs k d).at) same)
]

pub rise : (xs : List Step) → Ascend xs → IsNonDecreasingBy (λ step. step.at) xs
rise xs ascend i j d before within = not_below_before xs ascend i j d before within

-- the hits of an address, by the first step above it
pub hits-behind : (xs : List Step) (n a : ℕ) → IsFirstAbove xs n a → hits_on xs a ≡ (last_of ground (take n xs)).hits
hits-behind xs n a first = ap (λ ys. (last_of ground ys).hits) (filter_is_take (λ step. step.at) xs n a first.passed first.ahead first.within)

pub hits_by-is : (xs : List Step) (a : ℕ) → a < 2 ^ 64 → hits_by xs a ≡ hits_on xs a
hits_by-is xs a fits = rw (lt-ltb a (2 ^ 64) fits) refl

-- one more step is passed
pub passed_more : (xs : List Step) (n a : ℕ) → AllWithin (λ step. step.at ≤ a) xs 0 n → (get_or xs n none).at ≤ a → n < length xs → AllWithin (λ step. step.at ≤ a) xs 0 (suc n)
passed_more xs n a passed here within k d from below = elim (cases_lt k n) [
  | inl less ↦ passed k d from less
  | inr not ↦
      let same : k ≡ n = omega (arith, not, below) in
      omega (arith, here, ap (λ j. (get_or xs j d).at) same, ap (λ (s : Step). s.at) (get_or_default xs n d none within))
]

-- the first step that is above an address, by it alone
pub first_above-at : (xs : List Step) (n a : ℕ) → Ascend xs → AllWithin (λ step. step.at ≤ a) xs 0 n → n ≤ length xs → (n < length xs → a < (get_or xs n none).at) → IsFirstAbove xs n a
first_above-at xs n a ascend passed within next = record {
  within = within;
  passed = passed;
  ahead = λ k d from inside.
      omega (arith, next (omega (arith, from, inside)), not_below_before xs ascend n k d from inside, ap (λ (s : Step). s.at) (get_or_default xs n d none (omega (arith, from, inside))));
}

-- the hits from a step on, up to the next
pub hits-from : (xs : List Step) (n a : ℕ) → Ascend xs → n < length xs → (get_or xs n none).at ≤ a → (suc n < length xs → a < (get_or xs (suc n) none).at) → hits_on xs a ≡ (get_or xs n none).hits
hits-from xs n a ascend within here next =
    hits-behind xs (suc n) a
    (first_above-at xs (suc n) a ascend (λ k d from below. omega (arith, here, not_below_before xs ascend k n d (omega (arith, below)) within, ap (λ (s : Step). s.at) (get_or_default xs n d none within))) (omega (arith, within)) next)
    ∙ ap (λ (s : Step). s.hits) (last_of-take ground xs n none within)

pub hits-found : (xs : List Step) (n a hits : ℕ) → a < 2 ^ 64 → IsFirstAbove xs n a → hits ≡ (last_of ground (take n xs)).hits → hits ≡ hits_by xs a
hits-found xs n a hits fits first is = is ∙ sym (hits-behind xs n a first) ∙ sym (hits_by-is xs a fits)
