-- What is read is spelled so, and what is spelled so is read.
use Rattle.std.proofs.Common.{◌≡◌, ◌≢◌, ◌<◌, ◌≤◌, ◌+◌, ◌-◌, inl, inr, ℕ, suc, ℤ, Bool, true, List, [], ◌∷◌, ◌++◌, length, take, drop, Ok, refl, sym, ap, ◌∙◌, arith}
use Rattle.std.proofs.lemmas.Bool.{le-leb, lt-leb, leb-true, leb-false, lt-ltb, le-ltb, cases_lt, cases_Bool, ne_eqb, not_from_false}
use Rattle.std.proofs.lemmas.List.Sums.{prefix_len-le-length, prefix_len_is}
use Rattle.std.proofs.lemmas.List.{take_at, drop_at, length-append, length-drop, length-take-le, append_cancel_right, append_assoc, take-append-drop, take-take, drop-take, drop-drop, get_or_append_left, get_or_at}
use Rattle.std.specs.Prelude.{◌==◌}
use Rattle.std.specs.List.{prefix_len, position_or_len, All}
use Rattle.byte_view.specs.Cursor.{Cursor, Passes, Reads}
use Rattle.byte_view.specs.Leb.{goes_on, IsLeb, unsigned_value, signed_value, fits_u64, fits_i64}
use Rattle.byte_view.proofs.LebLemmas.{leb_at-whole, leb_at-misfit, leb_at-long, leb_at-short}
use Rattle.byte_view.specs.Laws.{IsReadBack, IsPrefixFree, PassesBytesOfFile}
use Rattle.byteorder.specs.Numbers.{little_from-append}
use Rattle.byte_view.specs.Reading.{SpellsField, SpellsRun, SpellsText, SpellsUleb, SpellsSleb, Reading, field_at, run_at, text_at, leb_at, uleb_at, sleb_at}

-- two answers of one reading
same_answer : {X : Type 0} (reading : Reading X) (n m : X) (rest behind : List ℕ) → reading ≡ Ok (n, rest) → reading ≡ Ok (m, behind) → (n ≡ m) × (rest ≡ behind)
same_answer {X} reading n m rest behind e f =
    let pair : ◌≡◌ {A = X × List ℕ} (n, rest) (m, behind) = cc in
    (ap (λ (p : X × List ℕ). p.0) pair, ap (λ (p : X × List ℕ). p.1) pair)

-- a byte that goes on before a number
IsLeb-cons : (byte : ℕ) (bytes : List ℕ) → 128 ≤ byte → IsLeb bytes → IsLeb (byte ∷ bytes)
IsLeb-cons byte [] goes leb = absurd leb
IsLeb-cons byte (next ∷ rest) goes leb = (goes, leb)

-- the bytes that go on and the one behind them are a number
IsLeb-front : (bytes : List ℕ) → prefix_len goes_on bytes < length bytes → IsLeb (take (prefix_len goes_on bytes + 1) bytes)
IsLeb-front [] there = absurd (omega arith)
IsLeb-front (byte ∷ rest) there =
    elim (cases_Bool (goes_on byte)) [
      | inl goes ↦
          let len : prefix_len goes_on (byte ∷ rest) + 1 ≡ suc (prefix_len goes_on rest + 1) = rw goes (omega arith) in
          let more : prefix_len goes_on rest < length rest = omega arith in
          rw len (IsLeb-cons byte (take (prefix_len goes_on rest + 1) rest) (leb-true 128 byte goes) (IsLeb-front rest more))
      | inr last ↦
          let len : prefix_len goes_on (byte ∷ rest) + 1 ≡ 1 = rw last refl in
          rw len (leb-false 128 byte last)
    ]

-- a number's bytes but the last go on
prefix_len-leb : (bytes rest : List ℕ) → IsLeb bytes → prefix_len goes_on (bytes ++ rest) + 1 ≡ length bytes
prefix_len-leb [] rest leb = absurd leb
prefix_len-leb (byte ∷ []) rest leb = rw (lt-leb 128 byte leb) refl
prefix_len-leb (byte ∷ next ∷ more) rest leb =
    let ih = prefix_len-leb (next ∷ more) rest leb.1 in
    rw (le-leb 128 byte leb.0) (omega (arith, ih))

-- What a read of a number says of the bytes.
module _ {X : Type 0} (value : List ℕ → X) (fits : X → Bool) where
  record IsRead (bytes : List ℕ) (n : X) (rest : List ℕ) : Type 0 where
    pub there : prefix_len goes_on bytes < length bytes
    pub at_most_ten : prefix_len goes_on bytes < 10
    pub value_is : n ≡ value (take (prefix_len goes_on bytes + 1) bytes)
    pub fits_is : fits n ≡ true
    pub rest_is : rest ≡ drop (prefix_len goes_on bytes + 1) bytes

  leb_at-read : (bytes : List ℕ) (n : X) (rest : List ℕ) → leb_at value fits bytes ≡ Ok (n, rest) → IsRead bytes n rest
  leb_at-read bytes n rest e =
      let bound = prefix_len-le-length goes_on bytes in
      elim (cases_lt (prefix_len goes_on bytes) 10) [
        | inr long ↦ let refused = leb_at-long value fits bytes long in cc
        | inl few ↦ elim (cases_lt (prefix_len goes_on bytes) (length bytes)) [
          | inr short ↦ let refused = leb_at-short value fits bytes (omega arith) (omega arith) in cc
          | inl there ↦ elim (cases_Bool (fits (value (take (prefix_len goes_on bytes + 1) bytes)))) [
            | inr misfit ↦
                let refused = leb_at-misfit value fits bytes (prefix_len goes_on bytes) _ refl there few refl misfit in cc
            | inl fit ↦
                let read = leb_at-whole value fits bytes (prefix_len goes_on bytes) _ refl there few refl fit in
                let same = same_answer _ _ _ _ _ e read in
                record { there = there; at_most_ten = few; value_is = same.0; fits_is = rw same.0 fit; rest_is = same.1 }
          ]
        ]
      ]

  leb_at-again : (bytes rest : List ℕ) (n : X) → IsLeb bytes → length bytes ≤ 10 → n ≡ value bytes → fits n ≡ true → leb_at value fits (bytes ++ rest) ≡ Ok (n, rest)
  leb_at-again bytes rest n leb few n_is fit =
      let len = prefix_len-leb bytes rest leb in
      let all = length-append bytes rest in
      let number = take_at bytes rest (prefix_len goes_on (bytes ++ rest) + 1) (sym len) in
      let behind = drop_at bytes rest (prefix_len goes_on (bytes ++ rest) + 1) (sym len) in
      leb_at-whole value fits (bytes ++ rest) (prefix_len goes_on (bytes ++ rest)) n refl (omega arith) (omega arith) (rw number n_is) fit
      ∙ ap (λ (left : List ℕ). Ok (n, left)) behind

  -- what the bytes that were passed spell
  record IsSpelled (bytes : List ℕ) (n : X) (count : ℕ) : Type 0 where
    pub whole : IsLeb (take count bytes)
    pub at_most_ten : length (take count bytes) ≤ 10
    pub value_is : n ≡ value (take count bytes)
    pub fits_is : fits n ≡ true

  leb_at-spelled : (bytes : List ℕ) (n : X) (count : ℕ) → count ≤ length bytes → leb_at value fits bytes ≡ Ok (n, drop count bytes) → IsSpelled bytes n count
  leb_at-spelled bytes n count within e =
      let read = leb_at-read bytes n (drop count bytes) e in
      let there = read.there in
      let lengths = ap length read.rest_is in
      let count_is : count ≡ prefix_len goes_on bytes + 1 =
      omega (arith, lengths, length-drop count bytes, length-drop (prefix_len goes_on bytes + 1) bytes) in
      let len = length-take-le count bytes within in
      record {
        whole = rw count_is (IsLeb-front bytes there);
        at_most_ten = rw len (omega (arith, read.at_most_ten));
        value_is = rw count_is read.value_is;
        fits_is = read.fits_is;
      }

-- what is spelled is read, whatever follows it
pub uleb_at-again : (bytes rest : List ℕ) (n : ℕ) → SpellsUleb bytes n → uleb_at (bytes ++ rest) ≡ Ok (n, rest)
unfolding uleb_at
uleb_at-again bytes rest n spelled =
    leb_at-again unsigned_value fits_u64 bytes rest n spelled.whole spelled.at_most_ten spelled.value spelled.fits

pub sleb_at-again : (bytes rest : List ℕ) (z : ℤ) → SpellsSleb bytes z → sleb_at (bytes ++ rest) ≡ Ok (z, rest)
unfolding sleb_at
sleb_at-again bytes rest z spelled =
    leb_at-again signed_value fits_i64 bytes rest z spelled.whole spelled.at_most_ten spelled.value spelled.fits

-- What a cursor passed by so many bytes.
module _ (left : List ℕ) (old new : Cursor) (count : ℕ) (left_is : left ≡ old.left) (within : count ≤ length left) (new_left : new.left ≡ drop count old.left) (new_at : new.at ≡ old.at + count) where
  Passes-count : Passes old new (take count old.left)
  Passes-count =
      let len = length-take-le count left within in
      record {
        left = rw new_left (sym (take-append-drop count old.left));
        at = rw (new_at, ← left_is, len) refl;
      }

  pub Reads-uleb : (n : ℕ) → uleb_at left ≡ Ok (n, drop count left) → Reads SpellsUleb old new n
  unfolding uleb_at
  Reads-uleb n e =
      let spelled = leb_at-spelled unsigned_value fits_u64 left n count within e in
      record {
        bytes = take count old.left;
        spelled = rw (← left_is) (record { whole = spelled.whole; at_most_ten = spelled.at_most_ten; value = spelled.value_is; fits = spelled.fits_is });
        passed = Passes-count;
      }

  pub Reads-sleb : (z : ℤ) → sleb_at left ≡ Ok (z, drop count left) → Reads SpellsSleb old new z
  unfolding sleb_at
  Reads-sleb z e =
      let spelled = leb_at-spelled signed_value fits_i64 left z count within e in
      record {
        bytes = take count old.left;
        spelled = rw (← left_is) (record { whole = spelled.whole; at_most_ten = spelled.at_most_ten; value = spelled.value_is; fits = spelled.fits_is });
        passed = Passes-count;
      }

pub field_at-again : (size : ℕ) (bytes rest : List ℕ) (n : ℕ) → SpellsField size bytes n → field_at size (bytes ++ rest) ≡ Ok (n, rest)
unfolding field_at
field_at-again size bytes rest n spelled =
    let sized = spelled.sized in
    let long = length-append bytes rest in
    let number = little_from-append size bytes rest (omega arith) in
    rw (le-ltb (length (bytes ++ rest)) size (omega arith), drop_at bytes rest size sized, number, ← spelled.value) refl

pub run_at-again : (size : ℕ) (bytes rest run : List ℕ) → SpellsRun size bytes run → run_at size (bytes ++ rest) ≡ Ok (run, rest)
unfolding run_at
run_at-again size bytes rest run spelled =
    let sized = spelled.sized in
    let long = length-append bytes rest in
    rw (le-ltb (length (bytes ++ rest)) size (omega arith), drop_at bytes rest size sized, take_at bytes rest size sized, ← spelled.value) refl

text_at-front : (text rest : List ℕ) → All (λ byte. byte ≢ 0) text → text_at (text ++ 0 ∷ rest) ≡ Ok (text, rest)
unfolding text_at
text_at-front text rest no_nul =
    let long = length-append text (0 ∷ rest) in
    let nul : position_or_len (λ byte. byte == 0) (text ++ 0 ∷ rest) ≡ length text =
    prefix_len_is _ (text ++ 0 ∷ rest) (length text) 0 (omega (arith, long))
    (λ j below. not_from_false _ (ne_eqb _ 0 (λ is_nul. no_nul j 0 below (sym (get_or_append_left text (0 ∷ rest) 0 j below) ∙ is_nul))))
    (λ there. rw (get_or_at text 0 rest 0 (length text) refl) refl) in
    let before = take_at text (0 ∷ rest) (length text) refl in
    let behind : drop (length text + 1) (text ++ 0 ∷ rest) ≡ rest =
    sym (drop-drop 1 (length text) (text ++ 0 ∷ rest)) ∙ ap (drop 1) (drop_at text (0 ∷ rest) (length text) refl) in
    rw (nul, lt-ltb (length text) (length (text ++ 0 ∷ rest)) (omega (arith, long)), before, behind) refl

pub text_at-again : (bytes rest text : List ℕ) → SpellsText bytes text → text_at (bytes ++ rest) ≡ Ok (text, rest)
text_at-again bytes rest text spelled =
    let regrouped : bytes ++ rest ≡ text ++ 0 ∷ rest = rw spelled.value (append_assoc text (0 ∷ []) rest) in
    rw regrouped (text_at-front text rest spelled.no_nul)

-- a kind whose spellings are read back has no spelling that begins another
pub prefix_free-from_read : {X : Type 0} (Spells : List ℕ → X → Type 0) (reading : List ℕ → Reading X) → IsReadBack Spells reading → IsPrefixFree Spells
prefix_free-from_read Spells reading again a b x y m n spells_a spells_b same =
    let read = again a x m spells_a in
    let other = again b y n spells_b in
    let parts = same_answer (reading (b ++ y)) m n x y (rw same at read) other in
    let e : a ++ x ≡ b ++ x = rw (← parts.1) at same in
    (append_cancel_right a b x e, parts.0)

pub passes_bytes_of_file : PassesBytesOfFile
passes_bytes_of_file file bytes old new over passed =
    let moved = passed.at in
    let total : length old.left ≡ length bytes + length new.left = rw passed.left (length-append bytes new.left) in
    let size : old.at + length old.left - old.at ≡ length bytes + length new.left = omega (arith, total) in
    let whole : old.left ≡ take (length bytes + length new.left) (drop old.at file) = rw size at over.bytes in
    let joined : bytes ++ new.left ≡ take (length bytes + length new.left) (drop old.at file) = sym passed.left ∙ whole in
    let front : bytes ≡ take (length bytes) (drop old.at file) =
    sym (take_at bytes new.left (length bytes) refl)
    ∙ ap (take (length bytes)) joined
    ∙ take-take (length bytes) (length bytes + length new.left) (drop old.at file) (omega arith) in
    let back : new.left ≡ take (length new.left) (drop (old.at + length bytes) file) =
    sym (drop_at bytes new.left (length bytes) refl)
    ∙ ap (drop (length bytes)) joined
    ∙ drop-take (length bytes) (length new.left) (drop old.at file)
    ∙ ap (take (length new.left)) (drop-drop (length bytes) old.at file) in
    let span : new.at + length new.left - new.at ≡ length new.left = omega arith in
    let step : new.at - old.at ≡ length bytes = omega (arith, moved) in (
      record {
        inside = omega (arith, moved, total, over.inside);
        bytes = rw (span, moved) back;
      },
      rw step front,
    )
