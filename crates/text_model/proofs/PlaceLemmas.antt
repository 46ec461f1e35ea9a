-- A number is the sum of its digits by their places.
use Rattle.std.proofs.Common.{◌≡◌, ℕ, ◌+◌, ◌*◌, ◌^◌, ◌<◌, Bool, true, false, List, [], ◌∷◌, ◌++◌, refl, ap, sym, ◌∙◌, arith, length, map, Some, None}
use Rattle.std.specs.Prelude.{◌&&◌, nat_lt, codes}
use Rattle.std.specs.Char.{digit_value, is_digit, to_ascii_uppercase}
use Rattle.std.specs.List.{list_all}
use Rattle.std.specs.Str.Parse.{digits_value, digits_value_after}
use Rattle.std.proofs.Math.Nat.{pow-suc, pow-zero}
use Rattle.std.proofs.lemmas.Bool.Decides.{nat_tests}
use Rattle.std.proofs.lemmas.List.{length-map}
use Rattle.std.proofs.lemmas.Bool.{and_parts}
use Rattle.text_model.specs.Numbers.{is_numeral, number_of}
use Rattle.text_model.proofs.NumberLemmas.{number_of-digits}
use Rattle.text_model.specs.Laws.{place_value, NumbersAreByPlace, CapitalsSpellTheSame, LeadingZerosSpellNothing}

distribute : (n base v p r : ℕ) → (n * base + v) * p + r ≡ n * (p * base) + (v * p + r)
distribute n base v p r = omega arith

after_is : (base n : ℕ) (ds : List ℕ) → digits_value_after base n ds ≡ n * base ^ length ds + place_value base ds
after_is base n [] = sym (ap (λ p. n * p + 0) (pow-zero base) ∙ omega arith)
after_is base n (d ∷ ds) =
    after_is base (n * base + digit_value d) ds
    ∙ distribute n base (digit_value d) (base ^ length ds) (place_value base ds)
    ∙ ap (λ p. n * p + (digit_value d * base ^ length ds + place_value base ds)) (sym (pow-suc base (length ds)))

spelled : (base : ℕ) (text : List ℕ) (n : ℕ) (numeral : Bool) → is_numeral base text ≡ numeral → number_of base text ≡ Some n → (numeral ≡ true) × (digits_value base text ≡ n)
unfolding number_of
spelled base text n true is some = (refl, let e : Some (digits_value base text) ≡ Some n = rw is at some in cc)
spelled base text n false is some = let e : None ≡ Some n = rw is at some in absurd (cc)

pub numbers_by_place : NumbersAreByPlace
numbers_by_place base text n some =
    let value = (spelled base text n (is_numeral base text) refl some).1 in
    sym value ∙ after_is base 0 text ∙ omega arith

capital_digit : (c : ℕ) → digit_value (to_ascii_uppercase c) ≡ digit_value c
capital_digit c = grind (arith, nat_tests)

after_capitals : (base n : ℕ) (ds : List ℕ) → digits_value_after base n (map to_ascii_uppercase ds) ≡ digits_value_after base n ds
after_capitals base n [] = refl
after_capitals base n (d ∷ ds) =
    after_capitals base (n * base + digit_value (to_ascii_uppercase d)) ds
    ∙ ap (λ v. digits_value_after base (n * base + v) ds) (capital_digit d)

all_capitals : (base : ℕ) (ds : List ℕ) → list_all (λ c. is_digit c base) (map to_ascii_uppercase ds) ≡ list_all (λ c. is_digit c base) ds
all_capitals base [] = refl
all_capitals base (d ∷ ds) =
    ap (λ v. nat_lt v base && list_all (λ c. is_digit c base) (map to_ascii_uppercase ds)) (capital_digit d)
    ∙ ap (λ all. is_digit d base && all) (all_capitals base ds)

pub capitals_spell_the_same : CapitalsSpellTheSame
unfolding number_of
capitals_spell_the_same base text =
    rw (length-map text to_ascii_uppercase, all_capitals base text, after_capitals base 0 text)

positive : (base d : ℕ) (ds : List ℕ) → is_numeral base (d ∷ ds) ≡ true → nat_lt 0 base ≡ true
positive base d ds is = grind (arith, nat_tests)

zero_in_front : (base d : ℕ) (ds : List ℕ) → nat_lt 0 base ≡ true → is_numeral base (d ∷ ds) ≡ true → number_of base (48 ∷ d ∷ ds) ≡ number_of base (d ∷ ds)
zero_in_front base d ds some is =
    let all : list_all (λ c. is_digit c base) (d ∷ ds) ≡ true = (and_parts (nat_lt 0 (length (d ∷ ds))) (list_all (λ c. is_digit c base) (d ∷ ds)) is).1 in
    let none : 0 * base + 0 ≡ 0 = omega arith in
    number_of-digits base (48 ∷ d ∷ ds) (omega arith) (rw some all)
    ∙ ap (λ v. Some (digits_value_after base v (d ∷ ds))) none
    ∙ sym (number_of-digits base (d ∷ ds) (omega arith) all)

pub leading_zeros_spell_nothing : LeadingZerosSpellNothing
leading_zeros_spell_nothing base [] n some = absurd (let e : is_numeral base [] ≡ true = (spelled base [] n (is_numeral base []) refl some).0 in cc)
leading_zeros_spell_nothing base (d ∷ ds) n some =
    let numeral = spelled base (d ∷ ds) n (is_numeral base (d ∷ ds)) refl some in
    zero_in_front base d ds (positive base d ds numeral.0) numeral.0 ∙ some
