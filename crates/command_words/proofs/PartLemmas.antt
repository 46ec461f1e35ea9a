-- The files of a merge, word by word.
use Rattle.std.proofs.Common.{◌≡◌, ◌≤◌, ◌<◌, ◌^◌, ◌&&◌, ℕ, Bool, true, false, nat_le, List, [], ◌∷◌, ◌++◌, length, map, Option, None, Some, Ok, Err, refl, ap, subst, sym, ◌∙◌, arith, inl, inr}
use Rattle.std.specs.Prelude.{MatchOption, if◌then◌else◌, option_and_then}
use Rattle.std.specs.Global.{Vec}
use Rattle.std.specs.Int.NonZero.{non_zero_u16_get}
use Rattle.std.specs.Option.{option_map}
use Rattle.std.specs.declared.num.NonZeroU16.{NonZeroU16}
use Rattle.std.proofs.lemmas.Bool.{cases_lt, le-leb, lt-leb, lt-ltb, le-ltb}
use Rattle.std.proofs.lemmas.List.{append-nil, append_assoc, length-append, length-map, map_push}
use Rattle.command_model.specs.Command.{max_parts, max_weight, merge, merged_of, parts_of, weight_of}
use Rattle.command_words.specs.Words.{few, texts_of, told_weighed}
use Rattle.command_words.specs.declared.command.Part.{Part}
use Rattle.text_scan.specs.Numbers.{within}
use Rattle.text_scan.specs.declared.read.NumberFault.{NumberFault}
use Rattle.text_scan.specs.declared.read.NumberFault.TheVariants.{NumberTooLarge}

-- ---- a weight

-- a number of 64 bits that was read is the one that is spelled
spelled : (o : Option ℕ) (n : ℕ) → Ok n ≡ within 64 o → o ≡ Some n
spelled None n told = absurd cc
spelled (Some m) n told =
    elim (cases_lt m (2 ^ 64)) [
      | inl fits ↦
          let at : Ok n ≡ Ok m = rw (lt-ltb m (2 ^ 64) fits) at told in
          let same : n ≡ m = cc in
          ap (λ k. Some k) (sym same)
      | inr large ↦ let at : Ok n ≡ Err NumberTooLarge = rw (le-ltb m (2 ^ 64) large) at told in absurd cc
    ]

-- what a number is as a weight
abbrev pub as_weight : ℕ → Option ℕ
as_weight n = if nat_le 1 n && nat_le n max_weight then Some n else None

pub weight_fits : (o : Option ℕ) (n : ℕ) (weight : Option NonZeroU16) → Ok n ≡ within 64 o → n ≤ max_weight
    → MatchOption weight (n ≡ 0) (λ x. non_zero_u16_get x ≡ n) → option_map non_zero_u16_get weight ≡ option_and_then as_weight o
weight_fits o n None told few none =
    sym (ap (option_and_then as_weight) (spelled o n told) ∙ ap as_weight none)
weight_fits o n (Some x) told few is =
    let some : 1 ≤ n = omega (arith, is, x.ok) in
    sym (ap (option_and_then as_weight) (spelled o n told) ∙ (rw (le-leb 1 n some, le-leb n max_weight few, is) refl))

pub weight_over : (o : Option ℕ) (n : ℕ) → Ok n ≡ within 64 o → max_weight < n → None ≡ option_and_then as_weight o
weight_over o n told over =
    let some : 1 ≤ n = omega (arith, over) in
    sym (ap (option_and_then as_weight) (spelled o n told) ∙ (rw (le-leb 1 n some, lt-leb n max_weight over) refl))

pub no_weight : (o : Option ℕ) (fault : NumberFault) → Err fault ≡ within 64 o → None ≡ option_and_then as_weight o
no_weight None fault told = refl
no_weight (Some m) fault told =
    elim (cases_lt m (2 ^ 64)) [
      | inl fits ↦ let at : Err fault ≡ Ok m = rw (lt-ltb m (2 ^ 64) fits) at told in absurd cc
      | inr over ↦
          let some : 1 ≤ m = omega (arith, over) in
          rw (le-leb 1 m some, lt-leb m max_weight (omega (arith, over))) refl
    ]

-- ---- files behind their weights

-- these files and those that the words left spell
abbrev pub with_rest : List Part → List (List ℕ) → Option (List (ℕ × List ℕ))
with_rest parts left = option_map (λ more. map told_weighed parts ++ more) (parts_of left)

-- These files stand in front, and these words are left.
pub record PartsSoFar (all left : List (Vec ℕ)) (parts : List Part) : Type 0 where
  pub same : parts_of (texts_of all) ≡ with_rest parts (texts_of left)
  pub fits : length parts ≤ max_parts

no_more : (o : Option (List (ℕ × List ℕ))) → o ≡ option_map (λ more. [] ++ more) o
no_more None = refl
no_more (Some more) = refl

pub PartsSoFar-start : (all : List (Vec ℕ)) → PartsSoFar all all []
PartsSoFar-start all = record { same = no_more (parts_of (texts_of all)); fits = omega arith }

-- a weight and a file in front of words
pub parts_behind : (weight file : List ℕ) (words : List (List ℕ)) (w : Option ℕ) → weight_of weight ≡ w
    → parts_of (weight ∷ file ∷ words) ≡ option_and_then (λ w. option_map (λ parts. (w, file) ∷ parts) (parts_of words)) w
parts_behind weight file words w is = ap (option_and_then (λ w. option_map (λ parts. (w, file) ∷ parts) (parts_of words))) is

one_more : (before : List (ℕ × List ℕ)) (part : ℕ × List ℕ) (o : Option (List (ℕ × List ℕ)))
    → option_map (λ more. before ++ more) (option_map (λ parts. part ∷ parts) o) ≡ option_map (λ more. (before ++ part ∷ []) ++ more) o
one_more before part None = refl
one_more before part (Some more) = ap (λ ps. Some ps) (sym (append_assoc before (part ∷ []) more))

pub PartsSoFar-more : (all rest : List (Vec ℕ)) (weight file : Vec ℕ) (parts : List Part) (part : Part)
    → PartsSoFar all (weight ∷ file ∷ rest) parts → weight_of weight.items ≡ Some (non_zero_u16_get part.weight) → part.file.now ≡ file.items
    → length parts < max_parts → PartsSoFar all rest (parts ++ part ∷ [])
PartsSoFar-more all rest weight file parts part so_far weighs is room = record {
  same =
      so_far.same
      ∙ ap (option_map (λ more. map told_weighed parts ++ more)) (parts_behind weight.items file.items (texts_of rest) _ weighs)
      ∙ one_more (map told_weighed parts) (non_zero_u16_get part.weight, file.items) (parts_of (texts_of rest))
      ∙ ap (λ f. option_map (λ more. (map told_weighed parts ++ (non_zero_u16_get part.weight, f) ∷ []) ++ more) (parts_of (texts_of rest))) (sym is)
      ∙ ap (λ ps. option_map (λ more. ps ++ more) (parts_of (texts_of rest))) (sym (map_push told_weighed parts part));
  fits = omega (arith, room, length-append parts (part ∷ []));
}

pub PartsSoFar-end : (all : List (Vec ℕ)) (parts : List Part) → PartsSoFar all [] parts
    → Some (map told_weighed parts) ≡ option_and_then few (parts_of (texts_of all))
PartsSoFar-end all parts so_far =
    let fits : length (map told_weighed parts) ≤ max_parts = omega (arith, so_far.fits, length-map parts told_weighed) in
    sym (ap (option_and_then few) (so_far.same ∙ ap (λ ps. Some ps) (append-nil (map told_weighed parts))) ∙ (rw (le-leb (length (map told_weighed parts)) max_parts fits) refl))

-- a weight without a file,
pub PartsSoFar-odd : (all : List (Vec ℕ)) (weight : Vec ℕ) (parts : List Part) → PartsSoFar all (weight ∷ []) parts
    → None ≡ option_and_then few (parts_of (texts_of all))
PartsSoFar-odd all weight parts so_far = sym (ap (option_and_then few) so_far.same)

-- no weight,
pub PartsSoFar-weightless : (all rest : List (Vec ℕ)) (weight file : Vec ℕ) (parts : List Part) → PartsSoFar all (weight ∷ file ∷ rest) parts
    → weight_of weight.items ≡ None → None ≡ option_and_then few (parts_of (texts_of all))
PartsSoFar-weightless all rest weight file parts so_far none =
    sym (ap (option_and_then few) (so_far.same ∙ ap (option_map (λ more. map told_weighed parts ++ more)) (parts_behind weight.items file.items (texts_of rest) None none)))

-- or more files than there may be
too_many : (before : List (ℕ × List ℕ)) (part : ℕ × List ℕ) (o : Option (List (ℕ × List ℕ))) → length before ≡ max_parts
    → option_and_then few (option_map (λ more. before ++ more) (option_map (λ parts. part ∷ parts) o)) ≡ None
too_many before part None full = refl
too_many before part (Some more) full =
    let over : max_parts < length (before ++ part ∷ more) = omega (arith, full, length-append before (part ∷ more)) in
    rw (lt-leb (length (before ++ part ∷ more)) max_parts over) refl

too_many-by : (before : List (ℕ × List ℕ)) (file : List ℕ) (words : List (List ℕ)) (w : Option ℕ) → length before ≡ max_parts
    → option_and_then few (option_map (λ more. before ++ more) (option_and_then (λ w. option_map (λ parts. (w, file) ∷ parts) (parts_of words)) w)) ≡ None
too_many-by before file words None full = refl
too_many-by before file words (Some w) full = too_many before (w, file) (parts_of words) full

pub PartsSoFar-full : (all rest : List (Vec ℕ)) (weight file : Vec ℕ) (parts : List Part) → PartsSoFar all (weight ∷ file ∷ rest) parts
    → length parts ≡ max_parts → None ≡ option_and_then few (parts_of (texts_of all))
PartsSoFar-full all rest weight file parts so_far full =
    sym (ap (option_and_then few) so_far.same
    ∙ too_many-by (map told_weighed parts) file.items (texts_of rest) (weight_of weight.items) (length-map parts told_weighed ∙ full))

-- ---- one to eight files

pub no_parts : (o : Option (List (ℕ × List ℕ))) → None ≡ option_and_then few o → None ≡ option_and_then merged_of o
no_parts None none = refl
no_parts (Some parts) none =
    elim (cases_lt max_parts (length parts)) [
      | inl over ↦ by_length parts over
      | inr fits ↦ let some : None ≡ Some parts = rw (le-leb (length parts) max_parts fits) at none in absurd cc
    ]
  where
    and_false : (b : Bool) → b && false ≡ false
    and_false true = refl
    and_false false = refl

    by_length : (parts : List (ℕ × List ℕ)) → max_parts < length parts → None ≡ merged_of parts
    by_length parts over = rw (lt-leb (length parts) max_parts over, and_false (nat_le 1 (length parts))) refl

pub some_parts : (o : Option (List (ℕ × List ℕ))) (parts : List (ℕ × List ℕ)) → Some parts ≡ option_and_then few o → (o ≡ Some parts) × (length parts ≤ max_parts)
some_parts None parts is = absurd cc
some_parts (Some found) parts is =
    elim (cases_lt max_parts (length found)) [
      | inl over ↦ let none : Some parts ≡ None = rw (lt-leb (length found) max_parts over) at is in absurd cc
      | inr fits ↦
          let some : Some parts ≡ Some found = rw (le-leb (length found) max_parts fits) at is in
          let same : parts ≡ found = cc in
          (ap (λ ps. Some ps) (sym same), subst (λ ps. length ps ≤ max_parts) (sym same) fits)
    ]

pub empty_parts : (o : Option (List (ℕ × List ℕ))) (parts : List (ℕ × List ℕ)) → Some parts ≡ option_and_then few o → length parts ≡ 0 → None ≡ option_and_then merged_of o
empty_parts o parts is none =
    let found = some_parts o parts is in
    sym (ap (option_and_then merged_of) found.0 ∙ (rw none refl))

pub merged_parts : (o : Option (List (ℕ × List ℕ))) (parts : List (ℕ × List ℕ)) → Some parts ≡ option_and_then few o → 0 < length parts
    → Some (merge parts) ≡ option_and_then merged_of o
merged_parts o parts is some =
    let found = some_parts o parts is in
    let least : 1 ≤ length parts = omega (arith, some) in
    sym (ap (option_and_then merged_of) found.0 ∙ (rw (le-leb 1 (length parts) least, le-leb (length parts) max_parts found.1) refl))
