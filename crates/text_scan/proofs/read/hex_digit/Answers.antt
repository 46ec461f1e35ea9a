-- The table is held against the definition at each of the 256 bytes, by computing.
use Rattle.std.proofs.Common.{◌≡◌, ℕ, zero, suc, ◌<◌, ◌≢◌, ◌&&◌, Bool, true, false, get_or, List, refl, arith, inl, inr, Some, None, sym, ◌∙◌}
use Rattle.std.specs.Prelude.{◌==◌, if◌then◌else◌}
use Rattle.std.specs.Char.{is_digit, digit_value}
use Rattle.std.proofs.lemmas.Bool.{cases_eq, eqb-true, ltb-true, and_parts}
use Rattle.text_scan.specs.declared.read.TheConstants.{HEX_DIGITS}
use Rattle.text_scan.proofs.read.hex_digit.Goals as goal

-- what a byte is worth, and 255 where it is no digit
abbrev worth : ℕ → ℕ
worth b = if is_digit b 16 then digit_value b else 255

agree_below : (ℕ → ℕ) → (ℕ → ℕ) → ℕ → Bool
agree_below f g zero = true
agree_below f g (suc n) = f n == g n && agree_below f g n

agree_at : (f g : ℕ → ℕ) (n : ℕ) → agree_below f g n ≡ true → (b : ℕ) → b < n → f b ≡ g b
unfolding agree_below
agree_at f g zero h b lt = absurd (omega arith)
agree_at f g (suc n) h b lt =
    let both = and_parts (f n == g n) (agree_below f g n) h in
    elim (cases_eq b n) [ inl same ↦ rw same (eqb-true (f n) (g n) both.0) | inr other ↦ agree_at f g n both.1 b (omega arith) ]

from_table : (table : List ℕ) (b : ℕ) → b < 256 → agree_below (λ k. get_or table k 0) worth 256 ≡ true → get_or table b 0 ≡ worth b
from_table table b lt h = agree_at _ _ 256 h b lt

no_digit : (b : ℕ) → worth b ≡ 255 → None ≡ (if is_digit b 16 then Some (digit_value b) else None)
no_digit b e = on (is_digit b 16) refl e
  where
    on : (v : Bool) → is_digit b 16 ≡ v → (if v then digit_value b else 255) ≡ 255 → None ≡ (if v then Some (digit_value b) else None)
    on true is e = absurd (omega (arith, ltb-true (digit_value b) 16 is, e))
    on false is e = refl

a_digit : (b d : ℕ) → d ≡ worth b → d ≢ 255 → Some d ≡ (if is_digit b 16 then Some (digit_value b) else None)
a_digit b d e other = on (is_digit b 16) e
  where
    on : (v : Bool) → d ≡ (if v then digit_value b else 255) → Some d ≡ (if v then Some (digit_value b) else None)
    on true e = rw e
    on false e = absurd (other e)

pub returns-then-digit : goal.returns-then-digit
unfolding agree_below
returns-then-digit c = no_digit c.args.byte (sym (from_table HEX_DIGITS c.args.byte (omega arith) refl) ∙ c.if-digit.true)

pub returns-else-digit : goal.returns-else-digit
unfolding agree_below
returns-else-digit c = a_digit c.args.byte _ (from_table HEX_DIGITS c.args.byte (omega arith) refl) c.if-digit.false
