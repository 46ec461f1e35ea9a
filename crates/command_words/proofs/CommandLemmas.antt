-- The words of a command, as the definitions see them.
use Rattle.std.proofs.Common.{◌≡◌, ◌≤◌, ◌<◌, ◌+◌, ◌^◌, ◌&&◌, ℕ, ◌-◌, zero, suc, Bool, true, false, nat_le, nat_lt, List, [], ◌∷◌, length, drop, Option, None, Some, Ok, Err, refl, ap, subst, sym, ◌∙◌, arith, inl, inr, add-one, drop-cons, get_or}
use Rattle.std.specs.Prelude.{if◌then◌else◌, option_and_then}
use Rattle.std.specs.Global.{Vec}
use Rattle.std.proofs.lemmas.List.{drop_all}
use Rattle.std.specs.List.{list_all}
use Rattle.std.specs.Char.{is_digit}
use Rattle.std.specs.Str.Parse.{AllDigits, digits_value}
use Rattle.std.proofs.lemmas.Int.Digits.{digits_value-lt}
use Rattle.std.proofs.lemmas.Bool.{cases_lt, le-leb, le-ltb, lt-leb, lt-ltb, ltb-true}
use Rattle.text_model.specs.Numbers.{hex_of, is_numeral, number_of}
use Rattle.command_model.specs.Command.{max_functions}
use Rattle.command_model.specs.Options.{is_option, option_count}
use Rattle.command_words.specs.Words.{texts_of}
use Rattle.text_scan.specs.Numbers.{within}
use Rattle.text_scan.specs.declared.read.NumberFault.{NumberFault}
use Rattle.text_scan.specs.declared.read.NumberFault.TheVariants.{NumberTooLarge}

-- ---- sixteen digits fit 64 bits

both-right : (a b : Bool) → a && b ≡ true → b ≡ true
both-right true b is = is
both-right false b is = absurd cc

both-left : (a b : Bool) → a && b ≡ true → a ≡ true
both-left true b is = refl
both-left false b is = absurd cc

all_digits : (text : List ℕ) → list_all (λ c. is_digit c 16) text ≡ true → AllDigits 16 text
all_digits [] all = tt
all_digits (c ∷ text) all = (ltb-true _ _ (both-left (is_digit c 16) (list_all (λ c. is_digit c 16) text) all), all_digits text (both-right (is_digit c 16) (list_all (λ c. is_digit c 16) text) all))

power : (d n : ℕ) → n + d ≡ 16 → 16 ^ n ≤ 2 ^ 64
power zero n e = let same : n ≡ 16 = omega arith in subst (λ k. 16 ^ k ≤ 2 ^ 64) (sym same) (omega arith)
power (suc d) n e = let more = power d (suc n) (omega arith) in omega (arith, more)

fits : (text : List ℕ) → length text ≤ 16 → is_numeral 16 text ≡ true → digits_value 16 text < 2 ^ 64
fits text short is =
    let value = digits_value-lt 16 text (all_digits text (both-right (nat_lt 0 (length text)) (list_all (λ c. is_digit c 16) text) is)) in
    let most = power (16 - length text) (length text) (omega arith) in
    omega (arith, value, most)

no_address-by : (text : List ℕ) (numeral : Bool) (fault : NumberFault) → length text ≤ 16 → is_numeral 16 text ≡ numeral
    → within 64 (if numeral then Some (digits_value 16 text) else None) ≡ Err fault → (if numeral then Some (digits_value 16 text) else None) ≡ None
no_address-by text true fault short is bad = let fit = lt-ltb (digits_value 16 text) (2 ^ 64) (fits text short is) in let ok = rw fit at bad in absurd cc
no_address-by text false fault short is bad = refl

pub no_address : (text : List ℕ) (fault : NumberFault) → length text ≤ 16 → within 64 (hex_of text) ≡ Err fault → hex_of text ≡ None
unfolding number_of
no_address text fault short bad = no_address-by text (is_numeral 16 text) fault short refl bad

-- ---- a number of functions

pub few_functions : (o : Option ℕ) (n : ℕ) → Ok n ≡ within 64 o → n ≤ max_functions → Some n ≡ option_and_then (λ n. if nat_le n max_functions then Some n else None) o
few_functions None n told few = absurd (cc)
few_functions (Some m) n told few =
    elim (cases_lt m (2 ^ 64)) [
      | inl fits ↦
          let at : Ok n ≡ Ok m = rw (lt-ltb m (2 ^ 64) fits) at told in
          let same : n ≡ m = cc in
          rw (← same, le-leb n max_functions few)
      | inr large ↦ let at : Ok n ≡ Err NumberTooLarge = rw (le-ltb m (2 ^ 64) large) at told in absurd (cc)
    ]

pub many_functions : (o : Option ℕ) (n : ℕ) → Ok n ≡ within 64 o → max_functions < n → None ≡ option_and_then (λ n. if nat_le n max_functions then Some n else None) o
many_functions None n told many = absurd (cc)
many_functions (Some m) n told many =
    elim (cases_lt m (2 ^ 64)) [
      | inl fits ↦
          let at : Ok n ≡ Ok m = rw (lt-ltb m (2 ^ 64) fits) at told in
          let same : n ≡ m = cc in
          rw (← same, lt-leb n max_functions many)
      | inr large ↦ let at : Ok n ≡ Err NumberTooLarge = rw (le-ltb m (2 ^ 64) large) at told in absurd (cc)
    ]

pub no_functions : (o : Option ℕ) (fault : NumberFault) → Err fault ≡ within 64 o → None ≡ option_and_then (λ n. if nat_le n max_functions then Some n else None) o
no_functions None fault told = refl
no_functions (Some m) fault told =
    elim (cases_lt m (2 ^ 64)) [
      | inl fits ↦ let at : Err fault ≡ Ok m = rw (lt-ltb m (2 ^ 64) fits) at told in absurd (cc)
      | inr over ↦ rw (lt-leb m max_functions (omega (arith, over)))
    ]

-- ---- words in front

pub drop-item : {X : Type 0} (xs : List X) (n : ℕ) (x : X) → n < length xs → x ≡ get_or xs n x → drop n xs ≡ x ∷ drop (n + 1) xs
drop-item xs n x within is = rw add-one (drop-cons xs n x within ∙ ap (λ y. y ∷ drop (suc n) xs) (sym is))

-- The options among words are so many in front, and those among the words behind them.
pub record Counted (words : List (Vec ℕ)) (front : ℕ) : Type 0 where
  pub all : option_count (texts_of words) ≡ front + option_count (texts_of (drop front words))

pub Counted-start : (words : List (Vec ℕ)) → Counted words 0
Counted-start words = record { all = omega arith }

counted-option : (word : List ℕ) (words : List (List ℕ)) → is_option word ≡ true → option_count (word ∷ words) ≡ 1 + option_count words
counted-option word words is = ap (λ b. if b then 1 + option_count words else 0) is

counted-other : (word : List ℕ) (words : List (List ℕ)) → is_option word ≡ false → option_count (word ∷ words) ≡ 0
counted-other word words is = ap (λ b. if b then 1 + option_count words else 0) is

pub Counted-more : (words : List (Vec ℕ)) (front : ℕ) (word : Vec ℕ) → Counted words front → front < length words → word ≡ get_or words front word
    → is_option word.items ≡ true → Counted words (front + 1)
Counted-more words front word so_far within is option =
    let here = ap (λ ws. option_count (texts_of ws)) (drop-item words front word within is) ∙ counted-option word.items (texts_of (drop (front + 1) words)) option in
    let all = so_far.all in
    record { all = omega (arith, here, all) }

pub Counted-stop : (words : List (Vec ℕ)) (front : ℕ) (word : Vec ℕ) → Counted words front → front < length words → word ≡ get_or words front word
    → is_option word.items ≡ false → front ≡ option_count (texts_of words)
Counted-stop words front word so_far within is other =
    let here = ap (λ ws. option_count (texts_of ws)) (drop-item words front word within is) ∙ counted-other word.items (texts_of (drop (front + 1) words)) other in
    let all = so_far.all in
    omega (arith, here, all)

pub Counted-end : (words : List (Vec ℕ)) (front : ℕ) → Counted words front → length words ≤ front → front ≡ option_count (texts_of words)
Counted-end words front so_far past =
    let here = ap (λ ws. option_count (texts_of ws)) (drop_all front words past) in
    let all = so_far.all in
    omega (arith, here, all)

-- there is no number either way
pub none_if : (b : Bool) (number : Option ℕ) → number ≡ None → None ≡ (if b then number else None)
none_if true number none = sym none
none_if false number none = refl
