-- Where the first spaces of a line end.
use Rattle.std.proofs.Common.{◌≡◌, ℕ, suc, ◌+◌, ◌≤◌, Bool, true, false, not, cond, List, [], ◌∷◌, length, refl, arith, inl, inr}
use Rattle.std.specs.Prelude.{◌==◌, position, unwrap_or}
use Rattle.std.specs.List.{position_or_len}
use Rattle.std.proofs.lemmas.Bool.{lt-ltb, le-ltb, cases_lt}
use Rattle.std.proofs.lemmas.List.Recursion.{is_position_or_len}
use Rattle.profile_model.specs.Reading.{spaces_of, space}

-- ---- the first spaces

flip : (b : Bool) (n : ℕ) → cond b (1 + n) 0 ≡ cond (not b) 0 (1 + n)
flip true n = refl
flip false n = refl

spaces_at : (line : List ℕ) → spaces_of line ≡ position_or_len (λ b. not (b == space)) line
spaces_at line = is_position_or_len spaces_of (λ b. not (b == space)) refl (λ x xs. flip (x == space) (spaces_of xs)) line

spaces_within : (line : List ℕ) → spaces_of line ≤ length line
spaces_within [] = omega arith
spaces_within (b ∷ line) = step (b == space) (spaces_of line) (length line) (spaces_within line)
  where
    step : (v : Bool) (m n : ℕ) → m ≤ n → cond v (1 + m) 0 ≤ suc n
    step true m n le = omega arith
    step false m n le = omega arith

pub spaces_found : (line : List ℕ) → unwrap_or (position (λ b. not (b == space)) line) (length line) ≡ spaces_of line
spaces_found line =
    elim (cases_lt (spaces_of line) (length line)) [
      | inl inside ↦ rw (← spaces_at line, lt-ltb _ _ inside)
      | inr past ↦ rw (← spaces_at line, le-ltb _ _ past) (omega (arith, spaces_within line))
    ]

pub spaces_are_within : (line : List ℕ) (n : ℕ) → n ≡ spaces_of line → n ≤ length line
spaces_are_within line n is = omega (arith, spaces_within line)
