-- What solving a network took.
use Rattle.std.specs.Prelude.{◌≡◌, ℕ, ◌+◌}
use Rattle.flow_model.specs.Network.{Network}
use Rattle.output_model.specs.Scaled.{AreAugmentations}

-- What was counted rose by augmentations within the bound of a network.
abbrev pub TookFew : Network → ℕ → ℕ → Type 0
TookFew net before after = (count : ℕ) × (after ≡ before + count) × AreAugmentations net count
