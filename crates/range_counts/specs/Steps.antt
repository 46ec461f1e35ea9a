-- Steps in order, and the first one above an address.
use Rattle.std.specs.Prelude.{ℕ, suc, ◌^◌, ◌≤◌, ◌<◌, List, [], ◌∷◌, length}
use Rattle.std.specs.List.{AllWithin}
use Rattle.profile_model.specs.declared.step.Step.{Step}

-- The steps lie between two addresses, each above the one before it.
abbrev pub AscendBetween : ℕ → ℕ → List Step → Type 0
AscendBetween from to [] = from ≤ to
AscendBetween from to (step ∷ steps) = (from ≤ step.at) × AscendBetween (suc step.at) to steps

-- The steps ascend.
abbrev pub Ascend : List Step → Type 0
Ascend steps = AscendBetween 0 (2 ^ 64) steps

-- So many steps are not above an address, and all others are.
pub record IsFirstAbove (steps : List Step) (next address : ℕ) : Type 0 where
  pub within : next ≤ length steps
  pub passed : AllWithin (λ step. step.at ≤ address) steps 0 next
  pub ahead : AllWithin (λ step. address < step.at) steps next (length steps)
