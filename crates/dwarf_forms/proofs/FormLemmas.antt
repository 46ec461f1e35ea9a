-- Codes that no form has.
use Rattle.std.proofs.Common.{◌≡◌, ◌≢◌, ℕ, List, ◌∷◌, None}
use Rattle.std.proofs.lemmas.Bool.{ne_eqb}
use Rattle.value_model.specs.Forms.{Operand, look_up}

-- a code that is not the first one of a table is looked up behind it
pub look_up-behind : (first code : ℕ) (operand : Operand) (rest : List (ℕ × Operand)) → code ≢ first
    → look_up rest code ≡ None → look_up ((first, operand) ∷ rest) code ≡ None
look_up-behind first code operand rest other behind = rw (ne_eqb code first other) behind
