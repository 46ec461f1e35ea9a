-- The place of an opcode in its table.
use Rattle.std.proofs.Common.{◌≡◌, ℕ, suc, ◌+◌, Bool, true, false, cond, List, [], ◌∷◌, length, map, Option, None, Some, refl, ap, ◌∙◌, inl, inr, arith}
use Rattle.std.specs.Prelude.{◌==◌, nat_lt, position, slice_get}
use Rattle.std.specs.List.{position_or_len}
use Rattle.std.specs.Option.{option_and_then}
use Rattle.std.proofs.lemmas.Bool.{cases_Bool}
use Rattle.std.proofs.lemmas.Bool.Decides.{nat_tests}
use Rattle.line_model.specs.Opcodes.{Operand, look_up}
use Rattle.line_program.specs.Tables.{operand_in}

abbrev pub codes : List (ℕ × Operand) → List ℕ
codes table = map (λ line. line.0) table

abbrev operands : List (ℕ × Operand) → List Operand
operands table = map (λ line. line.1) table

abbrev place : List (ℕ × Operand) → ℕ → ℕ
place table code = position_or_len (λ other. other == code) (codes table)

further : (n len : ℕ) (later : List Operand) (first : Operand)
    → cond (nat_lt (1 + n) (suc len)) (slice_get (first ∷ later) (1 + n)) None ≡ cond (nat_lt n len) (slice_get later n) None
further n len later first =
    let next : 1 + n ≡ suc n = omega arith in
    let same : nat_lt (suc n) (suc len) ≡ nat_lt n len = grind (arith, nat_tests) in
    rw (next, same) refl

picked : (table : List (ℕ × Operand)) (code : ℕ)
    → cond (nat_lt (place table code) (length (codes table))) (slice_get (operands table) (place table code)) None ≡ look_up table code
picked [] code = refl
picked ((first, operand) ∷ rest) code =
    elim (cases_Bool (first == code)) [
      | inl hit ↦
          let same : (code == first) ≡ true = grind (arith, nat_tests) in
          let within : nat_lt 0 (suc (length (codes rest))) ≡ true = grind (arith, nat_tests) in
          rw (hit, same) (ap (λ b. cond b (Some operand) None) within)
      | inr miss ↦
          let other : (code == first) ≡ false = grind (arith, nat_tests) in
          rw (miss, other) (further (place rest code) (length (codes rest)) (operands rest) operand ∙ picked rest code)
    ]

chosen : (b : Bool) (f : ℕ → Option Operand) (n : ℕ) → option_and_then f (cond b (Some n) None) ≡ cond b (f n) None
chosen true f n = refl
chosen false f n = refl

pub look_up-place : (table : List (ℕ × Operand)) (code : ℕ) → operand_in table (position (λ other. other == code) (codes table)) ≡ look_up table code
look_up-place table code =
    chosen (nat_lt (place table code) (length (codes table))) (slice_get (operands table)) (place table code) ∙ picked table code
