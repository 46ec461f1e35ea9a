-- The digits of a hexadecimal number, written from the last to the first.
use Rattle.std.proofs.Common.{◌≡◌, ℕ, zero, suc, ◌/◌, ◌%◌, ◌^◌, ◌<◌, ◌≤◌, Bool, false, List, [], ◌∷◌, refl, arith, sym, ◌∙◌, ap, inl, inr}
use Rattle.std.proofs.Math.Nat.{pow-suc}
use Rattle.std.specs.Fmt.{digits, digits_onto, digit_glyph}
use Rattle.text_model.specs.Numbers.{hex_text}
use Rattle.std.proofs.lemmas.Bool.{eq-eqb, ne_eqb, cases_eq}

-- the last k digits of n at most, and then acc
pub hex_onto : ℕ → ℕ → List ℕ → List ℕ
hex_onto k n acc = digits_onto k 16 false n acc

pub hex_onto-none : (n : ℕ) (acc : List ℕ) → hex_onto 0 n acc ≡ acc
unfolding hex_onto
hex_onto-none n acc = refl

-- at the first digit nothing is left
pub hex_onto-last : (k n : ℕ) (acc : List ℕ) → n / 16 ≡ 0 → hex_onto (suc k) n acc ≡ digit_glyph false (n % 16) ∷ acc
unfolding hex_onto
hex_onto-last k n acc last = rw (eq-eqb (n / 16) 0 last)

pub hex_onto-more : (k n : ℕ) (acc : List ℕ) → ¬ (n / 16 ≡ 0) → hex_onto (suc k) n acc ≡ hex_onto k (n / 16) (digit_glyph false (n % 16) ∷ acc)
unfolding hex_onto
hex_onto-more k n acc more = rw (ne_eqb (n / 16) 0 more)

below : (n k : ℕ) → n < 16 ^ suc (suc k) → n / 16 < 16 ^ suc k
below n k small = let power = pow-suc 16 (suc k) in omega (arith, small)

-- as many digits as the number has suffice
hex_onto-enough : (k m n : ℕ) (acc : List ℕ) → k ≤ m → n < 16 ^ suc k → hex_onto (suc m) n acc ≡ hex_onto (suc k) n acc
hex_onto-enough zero m n acc more small =
    let last : n / 16 ≡ 0 = omega (arith, small) in
    hex_onto-last m n acc last ∙ sym (hex_onto-last 0 n acc last)
hex_onto-enough (suc k) zero n acc more small = absurd (omega (arith, more))
hex_onto-enough (suc k) (suc m) n acc more small =
    elim (cases_eq (n / 16) 0) [
      | inl last ↦ hex_onto-last (suc m) n acc last ∙ sym (hex_onto-last (suc k) n acc last)
      | inr others ↦ hex_onto-more (suc m) n acc others
          ∙ hex_onto-enough k m (n / 16) (digit_glyph false (n % 16) ∷ acc) (omega (arith, more)) (below n k small)
          ∙ sym (hex_onto-more (suc k) n acc others)
    ]

digits-onto : (base : ℕ) (upper : Bool) (n k : ℕ) → k ≡ 64 → digits_onto k base upper n [] ≡ digits base upper n
unfolding digits
digits-onto base upper n k is = ap (λ k. digits_onto k base upper n []) is

hex_onto-digits : (n k : ℕ) → k ≡ 64 → hex_onto k n [] ≡ digits 16 false n
unfolding hex_onto
hex_onto-digits n k is = digits-onto 16 false n k is

-- sixteen digits hold a number of 64 bits
pub hex_onto-text : (n : ℕ) → n < 2 ^ 64 → 48 ∷ 120 ∷ hex_onto 16 n [] ≡ hex_text n
unfolding hex_text
hex_onto-text n small = ap (λ ds. 48 ∷ 120 ∷ ds) (sym (hex_onto-enough 15 63 n [] (omega arith) (omega (arith, small))) ∙ hex_onto-digits n 64 refl)
