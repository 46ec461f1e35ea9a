-- Weights are small where counts are.
use Rattle.std.proofs.Common.{◌≡◌, ◌<◌, ◌^◌, ℕ, List, [], ◌∷◌, Option, length, refl, inl, inr, arith}
use Rattle.std.specs.List.{All, AllZip, AllByRecursion}
use Rattle.std.proofs.lemmas.Bool.{cases_lt}
use Rattle.std.proofs.lemmas.List.{get_or_past}
use Rattle.std.proofs.lemmas.List.Elements.{All-from_recursion}
use Rattle.block_model.specs.declared.parts.Block.{Block}
use Rattle.block_model.specs.declared.parts.Weight.{Weight}
use Rattle.block_model.specs.declared.parts.Weight.TheVariants.{Unknown, Known}
use Rattle.flow_model.specs.Network.{weight_of}
use Rattle.flow_model.specs.Sound.{AreWeights}
use Rattle.key_types.specs.declared.ids.KeyId.{KeyId}
use Rattle.weight_model.specs.Blocks.{IsWeightOf}
use Rattle.block_weights.specs.Counts.{count_in}

small_weight : (key : ℕ → Option KeyId) (counts : List ℕ) (block : Block) (weight : Weight) → All (λ count. count < 2 ^ 44) counts
    → IsWeightOf key (count_in counts) block weight → weight_of weight < 2 ^ 44
small_weight key counts block Unknown small is = omega arith
small_weight key counts block (Known weight) small is =
    let one : KeyId = is.attained.1 in
    let same = is.attained.5 in
    elim (cases_lt one.0 (length counts)) [
      | inl within ↦ let here = small one.0 0 within in omega (arith, same, here)
      | inr behind ↦ let none = get_or_past counts one.0 0 behind in omega (arith, same, none)
    ]

each_small : (key : ℕ → Option KeyId) (counts : List ℕ) (blocks : List Block) (made : List Weight) → All (λ count. count < 2 ^ 44) counts
    → AllZip (IsWeightOf key (count_in counts)) blocks made → (length made ≡ length blocks) × AllByRecursion (λ weight. weight_of weight < 2 ^ 44) made
each_small key counts [] [] small zipped = (refl, tt)
each_small key counts [] (weight ∷ made) small zipped = absurd zipped
each_small key counts (block ∷ blocks) [] small zipped = absurd zipped
each_small key counts (block ∷ blocks) (weight ∷ made) small zipped =
    let more = each_small key counts blocks made small zipped.1 in
    (omega (arith, more.0), (small_weight key counts block weight small zipped.0, more.1))

pub weights_are_small : (key : ℕ → Option KeyId) (counts : List ℕ) (blocks : List Block) (made : List Weight)
    → AllZip (IsWeightOf key (count_in counts)) blocks made → All (λ count. count < 2 ^ 44) counts → AreWeights (length blocks) made
weights_are_small key counts blocks made zipped small =
    let each = each_small key counts blocks made small zipped in
    record { each = each.0; small = All-from_recursion (λ weight. weight_of weight < 2 ^ 44) made each.1 }
