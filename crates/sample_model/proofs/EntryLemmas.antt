-- What an entry is made of.
use Rattle.std.proofs.Common.{◌≡◌, ◌⊎◌, inl, inr, ℕ, suc, ◌+◌, Bool, true, false, nat_lt, List, [], ◌∷◌, ◌++◌, length, take, drop, Option, None, Some, refl, sym, ap, subst, ◌∙◌, arith}
use Rattle.std.specs.Prelude.{codes, if◌then◌else◌}
use Rattle.std.specs.Char.{is_digit}
use Rattle.std.specs.List.{AllByRecursion, list_all, position_or_len, before_first, after_first}
use Rattle.std.proofs.lemmas.Bool.{and_parts, eqb-true}
use Rattle.std.proofs.lemmas.Bool.Decides.{Decides-eqb}
use Rattle.std.proofs.lemmas.Slice.Eq.{starts_is}
use Rattle.std.proofs.lemmas.List.{append-nil, take_at}
use Rattle.text_model.specs.Numbers.{number_of, has_prefix, hex_of, prefixed_of, is_numeral}
use Rattle.sample_model.specs.Line.{◌>>=◌, within_64_bits, address_of, is_slash, entry_of}
use Rattle.sample_model.specs.Laws.{SpellsEntry, EntriesAreSpelled}

pub some-from : {A B : Type 0} (o : Option A) (f : A → Option B) (y : B) → (o >>= f) ≡ Some y → (x : A) × (o ≡ Some x) × (f x ≡ Some y)
some-from None f y is = absurd (cc)
some-from (Some x) f y is = (x, refl, is)

abbrev HasNoSlash : List ℕ → Type 0
HasNoSlash text = AllByRecursion (λ b. is_slash b ≡ false) text

digit_is_no_slash : (b : ℕ) → is_digit b 16 ≡ true → is_slash b ≡ false
digit_is_no_slash b digit = elim (is_slash b) as (λ v. is_slash b ≡ v → v ≡ false) [
  | true ↦ λ slash. absurd (let is : b ≡ 47 = eqb-true b 47 slash in let no : is_digit 47 16 ≡ true = subst (λ c. is_digit c 16 ≡ true) is digit in cc)
  | false ↦ λ _. refl
] refl

if_Some : {A : Type 0} (test : Bool) (o : Option A) (x : A) → (if test then o else None) ≡ Some x → (test ≡ true) × (o ≡ Some x)
if_Some true o x is = (refl, is)
if_Some false o x is = absurd (cc)

digits_have_no_slash : (text : List ℕ) → list_all (λ c. is_digit c 16) text ≡ true → HasNoSlash text
digits_have_no_slash [] digits = tt
digits_have_no_slash (b ∷ text) digits =
    let both = and_parts (is_digit b 16) (list_all (λ c. is_digit c 16) text) digits in
    (digit_is_no_slash b both.0, digits_have_no_slash text both.1)

hex_has_no_slash : (text : List ℕ) (n : ℕ) → hex_of text ≡ Some n → HasNoSlash text
unfolding number_of
hex_has_no_slash text n is =
    let numeral = if_Some (is_numeral 16 text) _ n is in
    digits_have_no_slash text (and_parts (nat_lt 0 (length text)) (list_all (λ c. is_digit c 16) text) numeral.0).1

prefixed_has_no_slash : (text : List ℕ) (n : ℕ) → prefixed_of text ≡ Some n → HasNoSlash text
unfolding prefixed_of
prefixed_has_no_slash text n is =
    let behind = if_Some (has_prefix text) (hex_of (drop 2 text)) n is in
    let whole : text ≡ codes "0x" ++ drop 2 text = (starts_is Decides-eqb text (codes "0x") _ refl).0 behind.0 in
    subst HasNoSlash (sym whole) (refl, (refl, hex_has_no_slash (drop 2 text) n behind.1))

address_has_no_slash : (text : List ℕ) (n : ℕ) → address_of text ≡ Some n → HasNoSlash text
unfolding address_of
address_has_no_slash text n is = let number = some-from (prefixed_of text) within_64_bits n is in prefixed_has_no_slash text number.0 number.1

position-other : (b : ℕ) (text : List ℕ) → is_slash b ≡ false → position_or_len is_slash (b ∷ text) ≡ suc (position_or_len is_slash text)
position-other b text other = rw other (omega arith)

before-other : (b : ℕ) (text : List ℕ) → is_slash b ≡ false → before_first is_slash (b ∷ text) ≡ b ∷ before_first is_slash text
before-other b text other = ap (λ n. take n (b ∷ text)) (position-other b text other)

after-other : (b : ℕ) (text : List ℕ) → is_slash b ≡ false → after_first is_slash (b ∷ text) ≡ after_first is_slash text
after-other b text other =
    let more : position_or_len is_slash (b ∷ text) + 1 ≡ suc (position_or_len is_slash text + 1) = omega (arith, position-other b text other) in
    ap (λ n. drop n (b ∷ text)) more

-- a text up to its first slash and behind it, or without one
split_at_slash : (text : List ℕ) → (text ≡ before_first is_slash text ++ 47 ∷ after_first is_slash text) ⊎ ((before_first is_slash text ≡ text) × (after_first is_slash text ≡ []))
split_at_slash [] = inr (refl, refl)
split_at_slash (b ∷ text) = elim (is_slash b) as (λ v. is_slash b ≡ v → (b ∷ text ≡ before_first is_slash (b ∷ text) ++ 47 ∷ after_first is_slash (b ∷ text))
    ⊎ ((before_first is_slash (b ∷ text) ≡ b ∷ text) × (after_first is_slash (b ∷ text) ≡ []))) [
      | true ↦ λ slash. let is : b ≡ 47 = eqb-true b 47 slash in inl (rw slash (ap (λ c. c ∷ text) is))
      | false ↦ λ other. elim (split_at_slash text) as (λ _. (b ∷ text ≡ before_first is_slash (b ∷ text) ++ 47 ∷ after_first is_slash (b ∷ text))
          ⊎ ((before_first is_slash (b ∷ text) ≡ b ∷ text) × (after_first is_slash (b ∷ text) ≡ []))) [
            | inl found ↦ inl (rw (before-other b text other, after-other b text other) (ap (λ t. b ∷ t) found))
            | inr none ↦ inr (before-other b text other ∙ ap (λ t. b ∷ t) none.0, after-other b text other ∙ none.1)
          ]
    ] refl

-- the first slash stands behind what has none
first_slash : (front rest : List ℕ) → HasNoSlash front → position_or_len is_slash rest ≡ 0 → position_or_len is_slash (front ++ rest) ≡ length front
first_slash [] rest none start = start
first_slash (b ∷ front) rest none start = rw none.0 (omega (arith, first_slash front rest none.1 start))

before_slash : (front rest : List ℕ) → HasNoSlash front → position_or_len is_slash rest ≡ 0 → before_first is_slash (front ++ rest) ≡ front
before_slash front rest none start = take_at front rest _ (sym (first_slash front rest none start))

drop_one : (front rest : List ℕ) → drop (length front + 1) (front ++ 47 ∷ rest) ≡ rest
drop_one [] rest = refl
drop_one (b ∷ front) rest =
    let more : suc (length front) + 1 ≡ suc (length front + 1) = omega arith in
    ap (λ n. drop n (b ∷ (front ++ 47 ∷ rest))) more ∙ drop_one front rest

after_slash : (front rest : List ℕ) → HasNoSlash front → after_first is_slash (front ++ 47 ∷ rest) ≡ rest
after_slash front rest none = ap (λ n. drop (n + 1) (front ++ 47 ∷ rest)) (first_slash front (47 ∷ rest) none refl) ∙ drop_one front rest

no_address : (text : List ℕ) (n : ℕ) → text ≡ [] → address_of text ≡ Some n → ⊥
unfolding address_of prefixed_of
no_address text n empty is = let no : address_of [] ≡ Some n = subst (λ t. address_of t ≡ Some n) empty is in cc

entry_is_spelled : (field : List ℕ) (branch : ℕ × ℕ) → entry_of field ≡ Some branch → SpellsEntry field branch
unfolding entry_of
entry_is_spelled field branch is =
    let behind = after_first is_slash field in
    let from = some-from (address_of (before_first is_slash field)) _ branch is in
    let to = some-from (address_of (before_first is_slash behind)) _ branch from.2 in
    let first : from.0 ≡ branch.0 = cc in
    let second : to.0 ≡ branch.1 = cc in
    elim (split_at_slash field) as (λ _. SpellsEntry field branch) [
      | inl whole ↦ elim (split_at_slash behind) as (λ _. SpellsEntry field branch) [
        | inl more ↦ record {
          from_text = before_first is_slash field;
          to_text = before_first is_slash behind;
          rest = 47 ∷ after_first is_slash behind;
          joined = whole ∙ ap (λ (t : List ℕ). before_first is_slash field ++ 47 ∷ t) more;
          from = from.1 ∙ ap Some first;
          to = to.1 ∙ ap Some second;
          flags = inr (after_first is_slash behind, refl);
        }
        | inr none ↦ record {
          from_text = before_first is_slash field;
          to_text = before_first is_slash behind;
          rest = [];
          joined = whole ∙ ap (λ (t : List ℕ). before_first is_slash field ++ 47 ∷ t) (sym none.0 ∙ sym (append-nil (before_first is_slash behind)));
          from = from.1 ∙ ap Some first;
          to = to.1 ∙ ap Some second;
          flags = inl refl;
        }
      ]
      | inr none ↦ absurd (no_address (before_first is_slash behind) to.0 (ap (before_first is_slash) none.1) to.1)
    ]

flags_start : (rest : List ℕ) → (rest ≡ []) ⊎ ((more : List ℕ) × (rest ≡ codes "/" ++ more)) → position_or_len is_slash rest ≡ 0
flags_start rest (inl none) = ap (position_or_len is_slash) none
flags_start rest (inr some) = ap (position_or_len is_slash) some.1

spelled_is_entry : (field : List ℕ) (branch : ℕ × ℕ) → SpellsEntry field branch → entry_of field ≡ Some branch
unfolding entry_of
spelled_is_entry field branch spells =
    let first = address_has_no_slash spells.from_text branch.0 spells.from in
    let second = address_has_no_slash spells.to_text branch.1 spells.to in
    let behind = spells.to_text ++ spells.rest in
    let front : before_first is_slash field ≡ spells.from_text = ap (before_first is_slash) spells.joined ∙ before_slash spells.from_text (47 ∷ behind) first refl in
    let back : after_first is_slash field ≡ behind = ap (after_first is_slash) spells.joined ∙ after_slash spells.from_text behind first in
    let middle : before_first is_slash behind ≡ spells.to_text = before_slash spells.to_text spells.rest second (flags_start spells.rest spells.flags) in
    rw (front, back, middle, spells.from, spells.to) refl

pub entries_are_spelled : EntriesAreSpelled
entries_are_spelled field branch = (entry_is_spelled field branch, spelled_is_entry field branch)
