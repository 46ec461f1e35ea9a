-- What is read begins with a spelling of what was read.
use Rattle.std.proofs.Common.{◌≡◌, ◌<◌, ◌≤◌, ◌+◌, ℕ, ℤ, Bool, inl, inr, List, ◌++◌, length, take, drop, Some, Result, Ok, refl, ap, sym, ◌∙◌, arith}
use Rattle.std.specs.List.{prefix_len, position_or_len}
use Rattle.std.proofs.lemmas.Bool.{cases_lt, cases_Bool, lt-ltb, le-ltb}
use Rattle.std.proofs.lemmas.List.{take-append-drop, length-take-le, take-take}
use Rattle.std.proofs.lemmas.List.Sums.{prefix_len-le-length, fails_before_first, passes_at_first}
use Rattle.byteorder.specs.Numbers.{little_from-append}
use Rattle.byteorder.specs.Endian.{little_number}
use Rattle.memchr.specs.Find.{IsFirstByte, is_byte}
use Rattle.byte_view.specs.Cursor.{Cursor, Reads}
use Rattle.byte_view.specs.Laws.{BeginsWith, IsReadAsSpelled}
use Rattle.byte_view.specs.Leb.{goes_on, unsigned_value, signed_value, fits_u64, fits_i64}
use Rattle.byte_view.specs.Reading.{SpellsField, SpellsRun, SpellsText, SpellsUleb, SpellsSleb, field_at, run_at, text_at, leb_at, uleb_at, sleb_at}
use Rattle.byte_view.proofs.LebLemmas.{leb_at-whole, leb_at-misfit, leb_at-long, leb_at-short}
use Rattle.byte_view.proofs.Spellings.{Reads-uleb, Reads-sleb}
use Rattle.byte_view.proofs.TextLemmas.{Reads-passed}

-- the value and the rest of one answer
module _ {X E : Type 0} where
  pub same_value : (n m : X) (rest behind : List ℕ) → ◌≡◌ {A = Result (X × List ℕ) E} (Ok (n, rest)) (Ok (m, behind)) → n ≡ m
  same_value n m rest behind e =
      let pair : ◌≡◌ {A = X × List ℕ} (n, rest) (m, behind) = cc in ap (λ (p : X × List ℕ). p.0) pair

  pub same_rest : (n m : X) (rest behind : List ℕ) → ◌≡◌ {A = Result (X × List ℕ) E} (Ok (n, rest)) (Ok (m, behind)) → rest ≡ behind
  same_rest n m rest behind e =
      let pair : ◌≡◌ {A = X × List ℕ} (n, rest) (m, behind) = cc in ap (λ (p : X × List ℕ). p.1) pair

pub run_at-spelled : (size : ℕ) → IsReadAsSpelled (SpellsRun size) (run_at size)
unfolding run_at
run_at-spelled size bytes rest run e =
    elim (cases_lt (length bytes) size) [
      | inl short ↦ absurd (let no = rw (lt-ltb (length bytes) size short) at e in cc)
      | inr there ↦
          let read = rw (le-ltb (length bytes) size there) at e in
          let run_is = same_value _ _ _ _ read in
          let rest_is = same_rest _ _ _ _ read in
          record {
            front = take size bytes;
            spelled = record { sized = length-take-le size bytes there; value = sym run_is };
            parts = rw (← rest_is) (sym (take-append-drop size bytes));
          }
    ]

pub field_at-spelled : (size : ℕ) (bytes rest : List ℕ) (n : ℕ) → field_at size bytes ≡ Ok (n, rest) → BeginsWith (SpellsField size) bytes n rest
unfolding field_at
field_at-spelled size bytes rest n e =
    elim (cases_lt (length bytes) size) [
      | inl short ↦ absurd (let no = rw (lt-ltb (length bytes) size short) at e in cc)
      | inr there ↦
          let read = rw (le-ltb (length bytes) size there) at e in
          let n_is = same_value _ _ _ _ read in
          let rest_is = same_rest _ _ _ _ read in
          let len = length-take-le size bytes there in
          let split = take-append-drop size bytes in
          let front_is : little_number size (take size bytes ++ drop size bytes) ≡ little_number size (take size bytes) =
          little_from-append size (take size bytes) (drop size bytes) (omega arith) in
          record {
            front = take size bytes;
            spelled = record { sized = len; value = sym n_is ∙ ap (little_number size) (sym split) ∙ front_is };
            parts = rw (← rest_is) (sym split);
          }
    ]

-- what a cursor at the front of the bytes reads
begins-reads : {X : Type 0} (SpellsX : List ℕ → X → Type 0) (bytes rest : List ℕ) (value : X) (new : Cursor) → new.left ≡ rest
    → Reads SpellsX (record { at = 0; left = bytes }) new value → BeginsWith SpellsX bytes value rest
begins-reads SpellsX bytes rest value new rest_is read =
    record { front = read.bytes; spelled = read.spelled; parts = rw (← rest_is) read.passed.left }

-- how many bytes a number has
module _ {X : Type 0} (value : List ℕ → X) (fits : X → Bool) where
  record IsPassed (bytes rest : List ℕ) : Type 0 where
    pub count : ℕ
    pub within : count ≤ length bytes
    pub rest_is : rest ≡ drop count bytes

  leb_at-passed : (bytes rest : List ℕ) (n : X) → leb_at value fits bytes ≡ Ok (n, rest) → IsPassed bytes rest
  leb_at-passed bytes rest n e =
      let bound = prefix_len-le-length goes_on bytes in
      elim (cases_lt (prefix_len goes_on bytes) 10) [
        | inr long ↦ let refused = leb_at-long value fits bytes long in absurd (cc)
        | inl few ↦ elim (cases_lt (prefix_len goes_on bytes) (length bytes)) [
          | inr short ↦ let refused = leb_at-short value fits bytes (omega arith) (omega arith) in absurd (cc)
          | inl there ↦ elim (cases_Bool (fits (value (take (prefix_len goes_on bytes + 1) bytes)))) [
            | inr misfit ↦
                let refused = leb_at-misfit value fits bytes (prefix_len goes_on bytes) _ refl there few refl misfit in absurd (cc)
            | inl fit ↦
                let read = leb_at-whole value fits bytes (prefix_len goes_on bytes) _ refl there few refl fit in
                record {
                  count = prefix_len goes_on bytes + 1;
                  within = omega arith;
                  rest_is = same_rest _ _ _ _ (sym e ∙ read);
                }
          ]
        ]
      ]

pub uleb_at-spelled : (bytes rest : List ℕ) (n : ℕ) → uleb_at bytes ≡ Ok (n, rest) → BeginsWith SpellsUleb bytes n rest
unfolding uleb_at
uleb_at-spelled bytes rest n e =
    let passed = leb_at-passed unsigned_value fits_u64 bytes rest n e in
    let new : Cursor = record { at = 0 + passed.count; left = drop passed.count bytes } in
    begins-reads SpellsUleb bytes rest n new (sym passed.rest_is)
    (Reads-uleb bytes (record { at = 0; left = bytes }) new passed.count refl passed.within refl refl n (rw (← passed.rest_is) e))

pub sleb_at-spelled : (bytes rest : List ℕ) (z : ℤ) → sleb_at bytes ≡ Ok (z, rest) → BeginsWith SpellsSleb bytes z rest
unfolding sleb_at
sleb_at-spelled bytes rest z e =
    let passed = leb_at-passed signed_value fits_i64 bytes rest z e in
    let new : Cursor = record { at = 0 + passed.count; left = drop passed.count bytes } in
    begins-reads SpellsSleb bytes rest z new (sym passed.rest_is)
    (Reads-sleb bytes (record { at = 0; left = bytes }) new passed.count refl passed.within refl refl z (rw (← passed.rest_is) e))

-- a text goes up to the first NUL
first_nul : (bytes : List ℕ) → position_or_len (is_byte 0) bytes < length bytes
    → IsFirstByte (is_byte 0) bytes (Some (position_or_len (is_byte 0) bytes))
first_nul bytes there = (
  record {
    low = omega arith;
    high = there;
    before = λ k low below is_nul.
        let other = fails_before_first (is_byte 0) bytes k 0 below in cc;
  },
  passes_at_first (is_byte 0) bytes 0 there,
)

pub text_at-spelled : IsReadAsSpelled SpellsText text_at
unfolding text_at
text_at-spelled bytes rest run e =
    elim (cases_lt (position_or_len (is_byte 0) bytes) (length bytes)) [
      | inr past ↦ absurd (let no = rw (le-ltb (position_or_len (is_byte 0) bytes) (length bytes) past) at e in cc)
      | inl there ↦
          let nul = position_or_len (is_byte 0) bytes in
          let read = rw (lt-ltb nul (length bytes) there) at e in
          let new : Cursor = record { at = 0 + (nul + 1); left = drop (nul + 1) bytes } in
          let passed = Reads-passed bytes (take (nul + 1) bytes) (record { at = 0; left = bytes }) new nul
          refl (first_nul bytes there) refl refl refl in
          let run_is : take nul (take (nul + 1) bytes) ≡ run =
          take-take nul (nul + 1) bytes (omega arith) ∙ same_value _ _ _ _ read in
          begins-reads SpellsText bytes rest run new (same_rest _ _ _ _ read) (rw run_is at passed)
    ]
