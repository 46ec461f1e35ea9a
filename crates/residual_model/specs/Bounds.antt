-- What an upper bound means, in each form in which it is asked.
use Rattle.std.specs.Prelude.{◌≡◌, ◌↔◌, ℕ, ◌+◌, ◌≤◌, false, Option}
use Rattle.block_model.specs.Judging.{exceeds}
use Rattle.flow_model.specs.Circulation.{IsAtMost}
use Rattle.flow_model.specs.Prices.{IsBelow}
use Rattle.flow_model.specs.Sound.{IsSoundUpper}
use Rattle.residual_model.specs.Residual.{capped}

-- A number is at most an upper bound where it does not exceed it; it is below the bound where one more is at most it;
-- capped it is the largest number up to itself that is at most the bound; and no lower bound is above a sound one.
pub record AsksAtMost (upper : Option ℕ) (n : ℕ) : Type 0 where
  pub not_exceeds : (exceeds n upper ≡ false) ↔ IsAtMost upper n
  pub below : IsBelow upper n ↔ IsAtMost upper (n + 1)
  pub capped_bounded : (capped upper n ≤ n) × IsAtMost upper (capped upper n)
  pub capped_largest : (m : ℕ) → m ≤ n → IsAtMost upper m → m ≤ capped upper n
  pub sound : IsSoundUpper n upper → IsAtMost upper n

-- Each form asks the one thing.
-- Why: Upper bounds are asked in the form that the code has; all of them mean `IsAtMost`.
abbrev pub UpperBoundsAgree : Type 0
UpperBoundsAgree = (upper : Option ℕ) (n : ℕ) → AsksAtMost upper n
