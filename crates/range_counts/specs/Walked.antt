-- A way up the addresses.
use Rattle.std.specs.Prelude.{ℕ, List}
use Rattle.profile_model.specs.declared.step.Step.{Step}

-- The steps that tell the hits, and the address from which on they may be asked.
pub record Walked : Type 0 where
  pub steps : List Step
  pub from : ℕ
