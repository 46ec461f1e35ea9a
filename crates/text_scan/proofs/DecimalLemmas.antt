-- What is read of a decimal number of so many bits, digit by digit, and what is answered for it.
use Rattle.std.proofs.Common.{◌≡◌, ◌≢◌, ℕ, ◌+◌, ◌*◌, ◌^◌, ◌<◌, ◌≤◌, true, false, List, arith, length, get_or, take, Option, Some, None, Ok, Err, sym, ap, ◌∙◌, inl, inr}
use Rattle.std.specs.Prelude.{◌==◌, if◌then◌else◌}
use Rattle.std.specs.Char.{is_digit, digit_value}
use Rattle.std.specs.List.{list_all}
use Rattle.std.specs.Str.Parse.{digits_value}
use Rattle.std.proofs.lemmas.Bool.{eqb-false, cases_lt, lt-ltb, le-ltb}
use Rattle.std.proofs.lemmas.Int.Digits.{digits_value_more}
use Rattle.std.proofs.lemmas.List.Folds.{list_all_more}
use Rattle.std.proofs.lemmas.List.{take_all}
use Rattle.text_model.specs.Numbers.{number_of}
use Rattle.text_model.proofs.NumberLemmas.{number_of-digits}
use Rattle.text_scan.specs.Numbers.{fitting, within}
use Rattle.text_scan.specs.declared.read.NumberFault.TheVariants.{NotNumber, NumberTooLarge}
use Rattle.text_scan.proofs.ReadLemmas.{digit_told}

-- the bytes are digits, and spell the value, if it fits
pub record IsReadSoFar (bits : ℕ) (bytes : List ℕ) (value : Option ℕ) : Type 0 where
  pub digits : list_all (λ c. is_digit c 10) bytes ≡ true
  pub spelled : value ≡ fitting bits (digits_value 10 bytes)

pub no_number : (bits : ℕ) (o : Option ℕ) → o ≡ None → Err NotNumber ≡ within bits o
no_number bits o none = rw none

pub read_more : (bits : ℕ) (text : List ℕ) (i digit : ℕ) (value next : Option ℕ) → i < length text
    → Some digit ≡ (if is_digit (get_or text i 0) 10 then Some (digit_value (get_or text i 0)) else None)
    → ((n : ℕ) → value ≡ fitting bits n → next ≡ fitting bits (n * 10 + digit))
    → IsReadSoFar bits (take i text) value → IsReadSoFar bits (take (i + 1) text) next
read_more bits text i digit value next within told more so_far =
    let is = digit_told (is_digit (get_or text i 0) 10) digit (digit_value (get_or text i 0)) told in
    let value_is = digits_value_more 10 text i within in
    record {
      digits = list_all_more (λ c. is_digit c 10) text i 0 within ∙ rw (so_far.digits, is.0);
      spelled = more (digits_value 10 (take i text)) so_far.spelled
          ∙ ap (λ d. fitting bits (digits_value 10 (take i text) * 10 + d)) is.1 ∙ ap (fitting bits) (sym value_is);
    }

read_whole : (bits : ℕ) (text : List ℕ) (i : ℕ) (value : Option ℕ) → false ≡ (length text == 0) → length text ≤ i → IsReadSoFar bits (take i text) value
    → (number_of 10 text ≡ Some (digits_value 10 text)) × (value ≡ fitting bits (digits_value 10 text))
read_whole bits text i value some past so_far =
    let whole : take i text ≡ text = take_all i text past in
    let all : IsReadSoFar bits text value = rw whole at so_far in
    let filled : length text ≢ 0 = eqb-false (length text) 0 (sym some) in
    (number_of-digits 10 text (omega arith) all.digits, all.spelled)

fits : (bits : ℕ) (n v : ℕ) → Some v ≡ fitting bits n → Ok v ≡ within bits (Some n)
fits bits n v told =
    elim (cases_lt n (2 ^ bits)) [
      | inl small ↦ let at : Some v ≡ Some n = rw (lt-ltb n (2 ^ bits) small) at told in let same : v ≡ n = cc in rw (lt-ltb n (2 ^ bits) small, same)
      | inr large ↦ let at : Some v ≡ None = rw (le-ltb n (2 ^ bits) large) at told in absurd (cc)
    ]

passes : (bits : ℕ) (n : ℕ) → None ≡ fitting bits n → Err NumberTooLarge ≡ within bits (Some n)
passes bits n told =
    elim (cases_lt n (2 ^ bits)) [
      | inl small ↦ let at : None ≡ Some n = rw (lt-ltb n (2 ^ bits) small) at told in absurd (cc)
      | inr large ↦ rw (le-ltb n (2 ^ bits) large)
    ]

pub read_fitting : (bits : ℕ) (text : List ℕ) (i v : ℕ) → false ≡ (length text == 0) → length text ≤ i → IsReadSoFar bits (take i text) (Some v)
    → Ok v ≡ within bits (number_of 10 text)
read_fitting bits text i v some past so_far =
    let read = read_whole bits text i (Some v) some past so_far in
    rw read.0 (fits bits (digits_value 10 text) v read.1)

pub read_large : (bits : ℕ) (text : List ℕ) (i : ℕ) → false ≡ (length text == 0) → length text ≤ i → IsReadSoFar bits (take i text) None
    → Err NumberTooLarge ≡ within bits (number_of 10 text)
read_large bits text i some past so_far =
    let read = read_whole bits text i None some past so_far in
    rw read.0 (passes bits (digits_value 10 text) read.1)
