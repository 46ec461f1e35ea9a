-- The digits of a hexadecimal number, as they are written into a buffer from its end.
use Rattle.std.proofs.Common.{◌≡◌, ℕ, suc, ◌+◌, ◌-◌, ◌/◌, ◌%◌, ◌^◌, ◌<◌, ◌≤◌, false, List, [], ◌∷◌, arith, length, drop, sym, ◌∙◌, ap}
use Rattle.std.specs.Prelude.{slice_set}
use Rattle.std.proofs.lemmas.List.{drop-set}
use Rattle.std.proofs.Math.ListN.{length-set}
use Rattle.std.specs.Fmt.{digit_glyph}
use Rattle.text_model.specs.Numbers.{hex_text}
use Rattle.text_model.proofs.DigitLemmas.{hex_onto, hex_onto-none, hex_onto-last, hex_onto-more, hex_onto-text}

-- a byte written before what stands from place i on
pub drop-written : (text : List ℕ) (i v : ℕ) → 0 < i → i ≤ length text → drop (i - 1) (slice_set text (i - 1) v) ≡ v ∷ drop i text
drop-written text i v some within =
    let back : i - 1 + 1 ≡ i = omega (arith, some) in
    drop-set text (i - 1) v (omega (arith, some, within)) ∙ ap (λ k. v ∷ drop k text) back

-- one digit more, with others left
pub hex_onto-written : (text ds : List ℕ) (start left glyph : ℕ) → 2 < start → start ≤ length text → glyph ≡ digit_glyph false (left % 16) → ¬ (left / 16 ≡ 0)
    → hex_onto (start - 2) left (drop start text) ≡ ds → hex_onto (start - 1 - 2) (left / 16) (drop (start - 1) (slice_set text (start - 1) glyph)) ≡ ds
hex_onto-written text ds start left glyph more within is others so_far =
    let room : start - 2 ≡ suc (start - 1 - 2) = omega (arith, more) in
    rw (drop-written text start glyph (omega (arith, more)) within, is)
    (sym (hex_onto-more (start - 1 - 2) left (drop start text) others) ∙ rw room at so_far)

-- the first digit
pub hex_onto-whole : (text ds : List ℕ) (start left glyph : ℕ) → 2 < start → start ≤ length text → glyph ≡ digit_glyph false (left % 16) → left / 16 ≡ 0
    → hex_onto (start - 2) left (drop start text) ≡ ds → drop (start - 1) (slice_set text (start - 1) glyph) ≡ ds
hex_onto-whole text ds start left glyph more within is last so_far =
    let room : start - 2 ≡ suc (start - 1 - 2) = omega (arith, more) in
    rw (drop-written text start glyph (omega (arith, more)) within, is)
    (sym (hex_onto-last (start - 1 - 2) left (drop start text) last) ∙ rw room at so_far)

-- no room is left: each of the digits stands
pub hex_onto-full : (text ds : List ℕ) (start left : ℕ) → start ≤ 2 → hex_onto (start - 2) left (drop start text) ≡ ds → drop start text ≡ ds
hex_onto-full text ds start left full so_far =
    let room : start - 2 ≡ 0 = omega (arith, full) in
    sym (hex_onto-none left (drop start text)) ∙ rw room at so_far

-- the prefix before the digits
pub hex_text-written : (text : List ℕ) (start n : ℕ) → n < 2 ^ 64 → 2 ≤ start → start ≤ length text → drop start text ≡ hex_onto 16 n []
    → drop (start - 2) (slice_set (slice_set text (start - 1) 120) (start - 2) 48) ≡ hex_text n
hex_text-written text start n small low within digits =
    let marked = slice_set text (start - 1) 120 in
    let twice : start - 1 - 1 ≡ start - 2 = omega (arith, low) in
    let first : drop (start - 1) marked ≡ 120 ∷ hex_onto 16 n [] = rw (drop-written text start 120 (omega (arith, low)) within, digits) in
    let second : drop (start - 1 - 1) (slice_set marked (start - 1 - 1) 48) ≡ 48 ∷ drop (start - 1) marked =
    drop-written marked (start - 1) 48 (omega (arith, low)) (omega (arith, within, length-set text (start - 1) 120)) in
    let both : drop (start - 2) (slice_set marked (start - 2) 48) ≡ 48 ∷ 120 ∷ hex_onto 16 n [] = rw (← twice, second, first) in
    rw both (hex_onto-text n small)
