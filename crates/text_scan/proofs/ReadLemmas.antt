-- What is read of a hexadecimal number, digit by digit, and what is answered for it.
use Rattle.std.proofs.Common.{◌≡◌, ℕ, ◌+◌, ◌*◌, ◌%◌, ◌^◌, ◌<◌, ◌≤◌, ◌≢◌, ◌&&◌, Bool, true, false, List, refl, arith, length, get_or, take, Option, Some, None, Ok, Err, sym, ap, ◌∙◌, inl, inr}
use Rattle.std.specs.Prelude.{◌==◌, nat_lt, if◌then◌else◌}
use Rattle.std.specs.Char.{is_digit, digit_value}
use Rattle.std.specs.List.{list_all}
use Rattle.std.specs.Str.Parse.{digits_value}
use Rattle.std.proofs.lemmas.Bool.{lt-ltb, le-ltb, cases_lt, ltb-true, eqb-false}
use Rattle.std.proofs.lemmas.Int.Digits.{digits_value_more}
use Rattle.std.proofs.lemmas.List.Folds.{list_all_more}
use Rattle.std.proofs.lemmas.List.{take_all}
use Rattle.text_model.specs.Numbers.{number_of}
use Rattle.text_model.proofs.NumberLemmas.{number_of-digits}
use Rattle.text_scan.specs.Numbers.{within}
use Rattle.text_scan.specs.declared.read.NumberFault.TheVariants.{NotNumber, NumberTooLarge}

pub within_none : (o : Option ℕ) → o ≡ None → Err NotNumber ≡ within 64 o
within_none o none = rw none

pub within_fitting : (o : Option ℕ) (n : ℕ) → o ≡ Some n → n < 2 ^ 64 → Ok n ≡ within 64 o
within_fitting o n is fits = rw (is, lt-ltb n (2 ^ 64) fits)

pub within_large : (o : Option ℕ) (n : ℕ) → o ≡ Some n → 2 ^ 64 ≤ n → Err NumberTooLarge ≡ within 64 o
within_large o n is large = rw (is, le-ltb n (2 ^ 64) large)

-- the bytes are digits, and spell the value, or a number that does not fit 64 bits
pub record IsReadSoFar (bytes : List ℕ) (value : ℕ) (fits : Bool) : Type 0 where
  pub digits : list_all (λ c. is_digit c 16) bytes ≡ true
  pub fitting : fits ≡ true → digits_value 16 bytes ≡ value
  pub large : fits ≡ false → 2 ^ 64 ≤ digits_value 16 bytes

-- what the table's answer tells of a digit
pub digit_told : (t : Bool) (d v : ℕ) → Some d ≡ (if t then Some v else None) → (t ≡ true) × (d ≡ v)
digit_told true d v e = (refl, cc)
digit_told false d v e = cc

-- and of a byte that is none
pub none_told : (t : Bool) (v : ℕ) → None ≡ (if t then Some v else None) → t ≡ false
none_told true v e = cc
none_told false v e = refl

step_value : (fits : Bool) (n value digit : ℕ) → value < 2 ^ 64 → digit < 16 → (fits ≡ true → n ≡ value) → (fits ≡ false → 2 ^ 64 ≤ n)
    → ((fits && nat_lt value (2 ^ 60)) ≡ true → n * 16 + digit ≡ value % 2 ^ 60 * 16 + digit) × ((fits && nat_lt value (2 ^ 60)) ≡ false → 2 ^ 64 ≤ n * 16 + digit)
step_value false n value digit small one fitting large = (λ e. cc, λ e. omega (arith, large refl))
step_value true n value digit small one fitting large =
    elim (cases_lt value (2 ^ 60)) [
      | inl shifts ↦ (λ e. omega (arith, fitting refl, shifts), λ e. let t = lt-ltb value (2 ^ 60) shifts in cc)
      | inr full ↦ (λ e. absurd (omega (arith, ltb-true value (2 ^ 60) e, full)), λ e. omega (arith, fitting refl, full))
    ]

pub read_more : (text : List ℕ) (i value digit : ℕ) (fits : Bool) → i < length text → value < 2 ^ 64
    → Some digit ≡ (if is_digit (get_or text i 0) 16 then Some (digit_value (get_or text i 0)) else None)
    → IsReadSoFar (take i text) value fits → IsReadSoFar (take (i + 1) text) (value % 2 ^ 60 * 16 + digit) (fits && nat_lt value (2 ^ 60))
read_more text i value digit fits within small told so_far =
    let is = digit_told (is_digit (get_or text i 0) 16) digit (digit_value (get_or text i 0)) told in
    let one : digit < 16 = omega (arith, ltb-true (digit_value (get_or text i 0)) 16 is.0, is.1) in
    let value_is : digits_value 16 (take (i + 1) text) ≡ digits_value 16 (take i text) * 16 + digit = digits_value_more 16 text i within ∙ ap (λ d. digits_value 16 (take i text) * 16 + d) (sym is.1) in
    let next = step_value fits (digits_value 16 (take i text)) value digit small one so_far.fitting so_far.large in
    record {
      digits = list_all_more (λ c. is_digit c 16) text i 0 within ∙ rw (so_far.digits, is.0);
      fitting = rw value_is next.0;
      large = rw value_is next.1;
    }

-- the whole text is read, and has a byte
record IsRead (text : List ℕ) (value : ℕ) (fits : Bool) : Type 0 where
  is : number_of 16 text ≡ Some (digits_value 16 text)
  fitting : fits ≡ true → digits_value 16 text ≡ value
  large : fits ≡ false → 2 ^ 64 ≤ digits_value 16 text

read_whole : (text : List ℕ) (i value : ℕ) (fits : Bool) → false ≡ (length text == 0) → length text ≤ i → IsReadSoFar (take i text) value fits → IsRead text value fits
read_whole text i value fits some past so_far =
    let whole : take i text ≡ text = take_all i text past in
    let all : IsReadSoFar text value fits = rw whole at so_far in
    let filled : length text ≢ 0 = eqb-false (length text) 0 (sym some) in
    record { is = number_of-digits 16 text (omega arith) all.digits; fitting = all.fitting; large = all.large }

pub read_fitting : (text : List ℕ) (i value : ℕ) (fits : Bool) → false ≡ (length text == 0) → length text ≤ i → IsReadSoFar (take i text) value fits → fits ≡ true → value < 2 ^ 64 → Ok value ≡ within 64 (number_of 16 text)
read_fitting text i value fits some past so_far fit small =
    let read = read_whole text i value fits some past so_far in
    within_fitting _ value (read.is ∙ ap Some (read.fitting fit)) small

pub read_large : (text : List ℕ) (i value : ℕ) (fits : Bool) → false ≡ (length text == 0) → length text ≤ i → IsReadSoFar (take i text) value fits → fits ≡ false → Err NumberTooLarge ≡ within 64 (number_of 16 text)
read_large text i value fits some past so_far over =
    let read = read_whole text i value fits some past so_far in
    within_large _ _ read.is (read.large over)
