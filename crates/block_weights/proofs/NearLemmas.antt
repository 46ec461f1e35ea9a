-- Lists that rise, of which a part is searched.
use Rattle.std.proofs.Common.{◌≡◌, ◌≢◌, ℕ, zero, suc, ◌<◌, ◌≤◌, ◌+◌, ◌-◌, List, length, take, drop, slice_index_or, refl, arith, inl, inr, ◌∙◌, ap, subst}
use Rattle.std.specs.List.{AllWithin}
use Rattle.std.specs.List.Sorted.{IsNonDecreasingBy}
use Rattle.std.proofs.lemmas.Bool.{cases_lt}
use Rattle.std.proofs.lemmas.List.{get_or-take, get_or-drop, get_or_default, length-take, length-drop}

pub some : (n : ℕ) → n ≢ 0 → 0 < n
some zero apart = absurd (apart refl)
some (suc n) apart = omega arith

module _ {X : Type 0} (n : X → ℕ) where
  pub below_all : (xs : List X) (place t : ℕ) (e : X) → IsNonDecreasingBy n xs → 0 < place → place ≤ length xs
      → n (slice_index_or xs (place - 1) e) < t → AllWithin (λ x. n x < t) xs 0 place
  below_all xs place t e up some within last k d from below =
      let same = ap n (get_or_default xs (place - 1) d e (omega arith)) in
      omega (arith, up k (place - 1) d (omega arith) (omega arith), last, same)

  pub from_all : (xs : List X) (place t : ℕ) (e : X) → IsNonDecreasingBy n xs → place < length xs
      → t ≤ n (slice_index_or xs place e) → AllWithin (λ x. t ≤ n x) xs place (length xs)
  from_all xs place t e up inside first k d from below =
      let same = ap n (get_or_default xs place d e inside) in
      omega (arith, up place k d from below, first, same)

module _ {X : Type 0} (P : X → Type 0) where
  -- what holds in a part holds in the whole, so much further behind
  at_place : (xs : List X) (low m k : ℕ) (d : X) → low ≤ k → k - low < m → P (slice_index_or (take m (drop low xs)) (k - low) d) → P (slice_index_or xs k d)
  at_place xs low m k d past inside holds =
      let at : low + (k - low) ≡ k = omega arith in
      subst P (get_or-take m (drop low xs) (k - low) d inside ∙ get_or-drop low xs (k - low) d ∙ ap (λ i. slice_index_or xs i d) at) holds

  pub front_within : (xs : List X) (low m i : ℕ) → i ≤ length (take m (drop low xs)) → AllWithin P xs 0 low → AllWithin P (take m (drop low xs)) 0 i
      → AllWithin P xs 0 (low + i)
  front_within xs low m i le before part k d from below =
      let long = length-take m (drop low xs) in
      elim (cases_lt k low) [
        | inl first ↦ before k d from first
        | inr past ↦ at_place xs low m k d past (omega (arith, long, le, past, below)) (part (k - low) d (omega arith) (omega (arith, past, below)))
      ]

  pub back_within : (xs : List X) (low m i high : ℕ) → high ≡ low + m → high ≤ length xs → AllWithin P xs high (length xs)
      → AllWithin P (take m (drop low xs)) i (length (take m (drop low xs))) → AllWithin P xs (low + i) (length xs)
  back_within xs low m i high is within behind part k d from below =
      let long = length-take m (drop low xs) in
      let rest = length-drop low xs in
      elim (cases_lt k high) [
        | inl inside ↦ at_place xs low m k d (omega (arith, from)) (omega (arith, is, inside, from)) (part (k - low) d (omega (arith, from)) (omega (arith, is, inside, from, long, rest, within)))
        | inr past ↦ behind k d past below
      ]
