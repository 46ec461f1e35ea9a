-- The weight of a block: how often its place that ran most often did.
use Rattle.std.specs.Prelude.{◌≡◌, ℕ, ◌<◌, ◌≤◌, Option, None, Some}
use Rattle.block_model.specs.declared.parts.Block.{Block}
use Rattle.block_model.specs.declared.parts.Weight.{Weight}
use Rattle.block_model.specs.declared.parts.Weight.TheVariants.{Unknown, Known}

-- The largest count of the keys that addresses from `lo` on and below `hi` have: some key has it, and none a larger.
pub record IsLargestCount {K : Type 0} (key : ℕ → Option K) (count : K → ℕ) (lo hi largest : ℕ) : Type 0 where
  pub attained : (a : ℕ) × (k : K) × (lo ≤ a) × (a < hi) × (key a ≡ Some k) × (count k ≡ largest)
  pub bounded : (a : ℕ) (k : K) → lo ≤ a → a < hi → key a ≡ Some k → count k ≤ largest

-- The weight of these addresses is unknown where none has a key, and else that count.
abbrev pub IsWeightIn : {K : Type 0} → (ℕ → Option K) → (K → ℕ) → ℕ → ℕ → Weight → Type 0
IsWeightIn key count lo hi Unknown = (a : ℕ) → lo ≤ a → a < hi → key a ≡ None
IsWeightIn key count lo hi (Known weight) = IsLargestCount key count lo hi weight

-- The weight of a block, by the key of each address and the count of each key.
abbrev pub IsWeightOf : {K : Type 0} → (ℕ → Option K) → (K → ℕ) → Block → Weight → Type 0
IsWeightOf key count block weight = IsWeightIn key count block.lo block.hi weight
