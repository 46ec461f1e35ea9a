-- What a text spells as a number, from its digits.
use Rattle.std.proofs.Common.{◌≡◌, ℕ, ◌<◌, Bool, true, false, List, [], ◌∷◌, refl, arith, length, get_or, Some, None, ◌∙◌, take, drop, nat_eq}
use Rattle.std.specs.Prelude.{◌==◌, codes}
use Rattle.std.specs.Char.{is_digit}
use Rattle.std.specs.List.{list_all}
use Rattle.std.specs.Str.Parse.{digits_value}
use Rattle.std.proofs.lemmas.Bool.{lt-ltb, eqb-true}
use Rattle.std.proofs.lemmas.List.Folds.{list_all_at}
use Rattle.std.specs.Cmp.Lexicographic.{pointwise}
use Rattle.std.proofs.lemmas.Cmp.{nat_list_eq_equiv}
use Rattle.std.specs.Prelude.{pos}
use Rattle.std.specs.Option.{option_map}
use Rattle.text_model.specs.Numbers.{number_of, has_prefix, hex_of, prefixed_of, has_minus, below_zero, decimal_of, signed_of}

pub number_of-empty : (base : ℕ) (text : List ℕ) → (length text == 0) ≡ true → number_of base text ≡ None
unfolding number_of
number_of-empty base [] empty = refl
number_of-empty base (b ∷ text) empty = absurd (omega (arith, eqb-true (length (b ∷ text)) 0 empty))

-- digits alone spell their number
pub number_of-digits : (base : ℕ) (text : List ℕ) → 0 < length text → list_all (λ c. is_digit c base) text ≡ true → number_of base text ≡ Some (digits_value base text)
unfolding number_of
number_of-digits base text some digits = rw (lt-ltb 0 (length text) some, digits)

-- a byte that is no digit
pub number_of-bad : (base : ℕ) (text : List ℕ) (i : ℕ) → i < length text → is_digit (get_or text i 0) base ≡ false → number_of base text ≡ None
unfolding number_of
number_of-bad base text i within bad =
    let some : 0 < length text = omega (arith, within) in
    rw (lt-ltb 0 (length text) some, list_all_at (λ c. is_digit c base) text i 0 within bad)

-- the test of `strip_prefix`, which takes the two texts the other way round
pub has_prefix_is : (text : List ℕ) (v : Bool) → pointwise nat_eq (take 2 text) (codes "0x") ≡ v → has_prefix text ≡ v
has_prefix_is text v is = nat_list_eq_equiv.symm (codes "0x") (take 2 text) ∙ is

-- behind the prefix stands a hexadecimal number
pub prefixed_of-behind : (text : List ℕ) → has_prefix text ≡ true → prefixed_of text ≡ hex_of (drop 2 text)
unfolding prefixed_of
prefixed_of-behind text is = rw is

pub prefixed_of-none : (text : List ℕ) → has_prefix text ≡ false → prefixed_of text ≡ None
unfolding prefixed_of
prefixed_of-none text is = rw is

-- the same of the sign
pub has_minus_is : (text : List ℕ) (v : Bool) → pointwise nat_eq (take 1 text) (codes "-") ≡ v → has_minus text ≡ v
has_minus_is text v is = nat_list_eq_equiv.symm (codes "-") (take 1 text) ∙ is

pub signed_of-behind : (text : List ℕ) → has_minus text ≡ true → signed_of text ≡ option_map below_zero (decimal_of (drop 1 text))
unfolding signed_of
signed_of-behind text is = rw is

pub signed_of-plain : (text : List ℕ) → has_minus text ≡ false → signed_of text ≡ option_map pos (decimal_of text)
unfolding signed_of
signed_of-plain text is = rw is
