-- Counts are small where hits and factors are.
use Rattle.std.proofs.Common.{◌<◌, ◌≤◌, ◌^◌, ℕ, ◌*◌, List, [], ◌∷◌, get_or, inl, inr, arith}
use Rattle.std.specs.List.{All}
use Rattle.std.proofs.Math.Nat.{mul-le-mul_right}
use Rattle.std.proofs.lemmas.List.{get_or_default}
use Rattle.key_types.specs.declared.places.Seg.{Seg}
use Rattle.profile_lists.specs.Segments.{AllFit, Attains, OneIs, AreCounts}

small_given : (keys : ℕ) (segments : List Seg) (hits : ℕ → ℕ) (key count : ℕ) → AllFit keys segments → ((a : ℕ) → hits a < 2 ^ 32)
    → OneIs (Attains hits key count) segments → count < 2 ^ 44
small_given keys [] hits key count fit few one = absurd one
small_given keys (seg ∷ segments) hits key count fit few one = elim one as (λ _. count < 2 ^ 44) [
  | inl gives ↦
      let few_here : hits gives.at ≤ 4294967295 = let here = few gives.at in omega (arith, here) in
      let most : hits gives.at * seg.factor ≤ 4294967295 * seg.factor = mul-le-mul_right seg.factor few_here in
      omega (arith, most, fit.1, gives.count_is)
  | inr later ↦ small_given keys segments hits key count fit.2 few later
]

pub small_counts : (keys : ℕ) (segments : List Seg) (hits : ℕ → ℕ) (counts : List ℕ) → AllFit keys segments → ((a : ℕ) → hits a < 2 ^ 32)
    → AreCounts segments hits counts → All (λ count. count < 2 ^ 44) counts
small_counts keys segments hits counts fit few are key d within =
    let same = get_or_default counts key d 0 within in
    elim (are key within).attained as (λ _. get_or counts key d < 2 ^ 44) [
      | inl none ↦ omega (arith, same, none)
      | inr one ↦ let small = small_given keys segments hits key (get_or counts key 0) fit few one in omega (arith, same, small)
    ]
