-- A text up to its NUL.
use Rattle.std.proofs.Common.{◌≡◌, ◌+◌, ℕ, List, length, take, drop, get_or, Some, None, Ok, Err, arith, refl, sym, ◌∙◌}
use Rattle.std.specs.List.{position_or_len}
use Rattle.std.proofs.lemmas.List.{take_more, length-take-le, get_or-take, get_or_default, take-take, take-append-drop}
use Rattle.std.proofs.lemmas.List.Sums.{prefix_len_is}
use Rattle.std.proofs.lemmas.Bool.{false_from_ne_true, not_from_false, not_from_true, eqb-true, eq-eqb, lt-ltb, le-ltb}
use Rattle.memchr.specs.Find.{IsFirstByte, is_byte}
use Rattle.byte_view.specs.declared.fault.ViewFault.TheVariants.{NoNul}
use Rattle.byte_view.specs.Cursor.{Cursor, Reads}
use Rattle.byte_view.specs.Reading.{SpellsText, text_at}

module _ (bytes : List ℕ) where
  pub position-of_first : (k : ℕ) → IsFirstByte (is_byte 0) bytes (Some k) → position_or_len (is_byte 0) bytes ≡ k
  position-of_first k first =
      prefix_len_is _ bytes k 0 (omega (arith, first.0.high))
      (λ j below. not_from_false _ (false_from_ne_true _ (first.0.before j (omega arith) below)))
      (λ _. not_from_true _ first.1)

  pub position-of_none : IsFirstByte (is_byte 0) bytes None → position_or_len (is_byte 0) bytes ≡ length bytes
  position-of_none nowhere =
      prefix_len_is _ bytes (length bytes) 0 (omega arith)
      (λ j below. not_from_false _ (false_from_ne_true _ (nowhere j (omega arith) below)))
      (λ past. absurd (omega arith))

  -- the first NUL ends the text
  text_at-first : (k : ℕ) → IsFirstByte (is_byte 0) bytes (Some k) → text_at bytes ≡ Ok (take k bytes, drop (k + 1) bytes)
  unfolding text_at
  text_at-first k first = rw (position-of_first k first, lt-ltb k (length bytes) first.0.high) refl

  pub text_at-none : IsFirstByte (is_byte 0) bytes None → text_at bytes ≡ Err NoNul
  unfolding text_at
  text_at-none nowhere = rw (position-of_none nowhere, le-ltb (length bytes) (length bytes) (omega arith)) refl

  SpellsText-first : (k : ℕ) → IsFirstByte (is_byte 0) bytes (Some k) → SpellsText (take (k + 1) bytes) (take k bytes)
  SpellsText-first k first =
      let nul : get_or bytes k 0 ≡ 0 = eqb-true _ _ first.1 in
      record {
        value = rw (take_more bytes k 0 first.0.high, nul) refl;
        no_nul = λ j d below is_nul.
            let len = length-take-le k bytes (omega (arith, first.0.high)) in
            let shown = get_or-take k bytes j d (omega arith) in
            let same = get_or_default bytes j d 0 (omega (arith, first.0.high)) in
            first.0.before j (omega arith) (omega arith) (eq-eqb _ 0 (sym same ∙ sym shown ∙ is_nul));
      }

-- the text that a cursor passed with its NUL
module _ (rest passed : List ℕ) (old new : Cursor) (k : ℕ) where
  pub text_at-passed : rest ≡ old.left → IsFirstByte (is_byte 0) rest (Some k) → passed ≡ take (k + 1) old.left → new.left ≡ drop (k + 1) old.left → text_at old.left ≡ Ok (take k passed, new.left)
  text_at-passed rest_is first passed_is left_is =
      let read = text_at-first rest k first in
      let shorter = take-take k (k + 1) old.left (omega arith) in
      rw (left_is, passed_is, shorter, ← rest_is) read

  pub Reads-passed : rest ≡ old.left → IsFirstByte (is_byte 0) rest (Some k) → passed ≡ take (k + 1) old.left → new.left ≡ drop (k + 1) old.left → new.at ≡ old.at + (k + 1) → Reads SpellsText old new (take k passed)
  Reads-passed rest_is first passed_is left_is at_is =
      let spelled = SpellsText-first rest k first in
      let shorter = take-take k (k + 1) old.left (omega arith) in
      let len = length-take-le (k + 1) rest (omega (arith, first.0.high)) in
      record {
        bytes = take (k + 1) old.left;
        spelled = rw (passed_is, shorter, ← rest_is) spelled;
        passed = record {
          left = rw left_is (sym (take-append-drop (k + 1) old.left));
          at = rw (at_is, ← rest_is, len) refl;
        };
      }
