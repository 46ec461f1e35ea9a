-- What is written is read.
use Rattle.std.proofs.Common.{◌≡◌, ℕ, zero, suc, ◌<◌, ◌^◌, Bool, true, false, List, [], ◌∷◌, refl, arith, ◌∙◌, ap, length, append_assoc, Some, None, All, inl, inr, subst}
use Rattle.std.specs.Prelude.{ℤ, pos, negsuc, codes, nat_lt, nat_eq, unsigned_abs}
use Rattle.std.specs.Char.{digit_value}
use Rattle.std.specs.Fmt.{decimal}
use Rattle.std.specs.List.{AllByRecursion, list_any}
use Rattle.std.specs.Str.{bytes_eq}
use Rattle.std.specs.Str.Parse.{AllDigits, IsNumeral}
use Rattle.std.proofs.lemmas.Bool.{lt-ltb, ltb-true, ne_eqb, cases_eq, or_parts}
use Rattle.std.proofs.lemmas.Fmt.{decimal_is_IsNumeral_wide}
use Rattle.text_model.specs.Fields.{fields_of, is_blank, is_filled}
use Rattle.text_model.specs.Numbers.{decimal_text, number_of, signed_text}
use Rattle.text_model.proofs.FieldLemmas.{fields_of-nil, fields_of-ended, fields_of-last}
use Rattle.text_model.proofs.LawLemmas.{decimal_text_is_read, signed_text_is_read}
use Rattle.block_model.specs.declared.parts.Weight.{Weight}
use Rattle.block_model.specs.declared.parts.Weight.TheVariants.{Unknown, Known}
use Rattle.block_model.specs.Line.{◌>>=◌, within_bits, place_of, count_of}
use Rattle.repair_model.specs.Bits.{IsSmall}
use Rattle.repair_model.specs.Laws.{IsName, CanBeTold, WrittenLinesAreRead}
use Rattle.repair_model.specs.Line.{Line, line_fields, spaced, weight_text, bit_text, weight_of, fits_price, price_of, sum_of, bit_of, function_line_of, counted_of, sided_of, weighed_of, block_line_of, taken_of, joined_of, edge_line_of, end_line_of, line_by_fields, behind_mark, line_of}
use Rattle.repair_model.specs.Line.{begins_flow, begins_cut, tells_count, tells_sides, tells_edge, ends_flow, ends_cut}

-- ---- fields with one space between them

all_clean : (xs : List ℕ) → list_any is_blank xs ≡ false → All (λ b. is_blank b ≡ false) xs
all_clean [] none k d within = absurd (omega (arith, within))
all_clean (x ∷ xs) none zero d within = (or_parts (is_blank x) (list_any is_blank xs) none).0
all_clean (x ∷ xs) none (suc k) d within = all_clean xs (or_parts (is_blank x) (list_any is_blank xs) none).1 k d (omega (arith, within))

spaced_read : (fields : List (List ℕ)) → AllByRecursion IsName fields → fields_of (spaced fields) ≡ fields
spaced_read [] names = fields_of-nil
spaced_read (field ∷ []) names =
    fields_of-last field (ltb-true 0 (length field) names.0.filled) (all_clean field names.0.clean)
spaced_read (field ∷ next ∷ fields) names =
    ap fields_of (append_assoc field (32 ∷ []) (spaced (next ∷ fields)))
    ∙ fields_of-ended field 32 (spaced (next ∷ fields)) (ltb-true 0 (length field) names.0.filled) (all_clean field names.0.clean) refl
    ∙ ap (λ (fs : List (List ℕ)). field ∷ fs) (spaced_read (next ∷ fields) names.1)

-- ---- numbers are names

pub digit_is_no : (d b : ℕ) → digit_value d < 10 → nat_lt (digit_value b) 10 ≡ false → nat_eq d b ≡ false
digit_is_no d b small large =
    elim (cases_eq d b) [
      | inl is ↦ let fits = subst (λ (c : ℕ). digit_value c < 10) is small in let t = lt-ltb (digit_value b) 10 fits in absurd (cc)
      | inr other ↦ ne_eqb d b other
    ]

digits_clean : (ds : List ℕ) → AllDigits 10 ds → list_any is_blank ds ≡ false
digits_clean [] digits = refl
digits_clean (d ∷ ds) digits = rw (digit_is_no d 32 digits.0 refl, digit_is_no d 9 digits.0 refl, digits_clean ds digits.1)

numeral_name : (n : ℕ) → n < 2 ^ 128 → IsName (decimal_text n)
numeral_name n small =
    let read = decimal_is_IsNumeral_wide n (omega (arith, small)) in
    record { filled = lt-ltb 0 (length (decimal n)) read.0.0; clean = digits_clean (decimal n) read.0.1 }

signed_name : (z : ℤ) → fits_price z ≡ true → IsName (signed_text z)
signed_name (pos n) fits = numeral_name n (omega (arith, ltb-true n (2 ^ 63) fits))
signed_name (negsuc n) fits =
    let name = numeral_name (suc n) (omega (arith, ltb-true n (2 ^ 63) fits)) in
    record { filled = lt-ltb 0 (length (signed_text (negsuc n))) (omega arith); clean = name.clean }

bit_name : (bit : Bool) → IsName (bit_text bit)
bit_name false = record { filled = refl; clean = refl }
bit_name true = record { filled = refl; clean = refl }

weight_name : (weight : Weight) → IsSmall weight → IsName (weight_text weight)
weight_name Unknown small = record { filled = refl; clean = refl }
weight_name (Known weight) small = numeral_name weight (omega (arith, small))

-- ---- what fields spell

within_read : (bits n : ℕ) → n < 2 ^ bits → within_bits bits n ≡ Some n
within_read bits n small = rw (lt-ltb n (2 ^ bits) small)

place_read : (n : ℕ) → n < 2 ^ 64 → place_of (decimal_text n) ≡ Some n
unfolding place_of
place_read n small = rw (decimal_text_is_read n (omega (arith, small))) (within_read 64 n small)

sum_read : (n : ℕ) → n < 2 ^ 128 → sum_of (decimal_text n) ≡ Some n
unfolding sum_of
sum_read n small = rw (decimal_text_is_read n small) (within_read 128 n small)

count_read : (n : ℕ) → n < 2 ^ 44 → count_of (decimal_text n) ≡ Some n
unfolding count_of
count_read n small = rw (decimal_text_is_read n (omega (arith, small))) (within_read 44 n small)

fits_abs : (z : ℤ) → fits_price z ≡ true → unsigned_abs z < 2 ^ 128
fits_abs (pos n) fits = omega (arith, ltb-true n (2 ^ 63) fits)
fits_abs (negsuc n) fits = omega (arith, ltb-true n (2 ^ 63) fits)

price_read : (z : ℤ) → fits_price z ≡ true → price_of (signed_text z) ≡ Some z
unfolding price_of
price_read z fits = rw (signed_text_is_read z (fits_abs z fits), fits)

bit_read : (bit : Bool) → bit_of (bit_text bit) ≡ Some bit
unfolding bit_of place_of number_of
bit_read false = refl
bit_read true = refl

no_mark : (ds : List ℕ) → IsNumeral 10 ds → bytes_eq ds (codes "?") ≡ false
no_mark [] numeral = absurd (omega (arith, numeral.0))
no_mark (d ∷ ds) numeral = rw (digit_is_no d 63 numeral.1.0 refl)

weight_read : (weight : Weight) → IsSmall weight → weight_of (weight_text weight) ≡ Some weight
unfolding weight_of
weight_read Unknown small = refl
weight_read (Known weight) small =
    let read = decimal_is_IsNumeral_wide weight (omega (arith, small)) in
    rw (no_mark (decimal weight) read.0, count_read weight small)

-- ---- lines

word_name : (word : List ℕ) → is_filled word ≡ true → list_any is_blank word ≡ false → IsName word
word_name word filled clean = record { filled = filled; clean = clean }

told_names : (line : Line) → CanBeTold line → AllByRecursion IsName (line_fields line)
told_names (begins_flow name) told = (word_name _ refl refl, (word_name _ refl refl, (told, (word_name _ refl refl, tt))))
told_names (begins_cut name root) told = (word_name _ refl refl, (word_name _ refl refl, (told, (word_name _ refl refl, (bit_name root, tt)))))
told_names (tells_count number weight count enter leave) told = (word_name _ refl refl, (word_name _ refl refl, (numeral_name number (omega (arith, told.0)), (word_name _ refl refl, (weight_name weight told.1, (word_name _ refl refl, (numeral_name count (omega (arith, told.2)), (word_name _ refl refl, (signed_name enter told.3, (word_name _ refl refl, (signed_name leave told.4, tt)))))))))))
told_names (tells_sides number weight enter leave) told = (word_name _ refl refl, (word_name _ refl refl, (numeral_name number (omega (arith, told.0)), (word_name _ refl refl, (weight_name weight told.1, (word_name _ refl refl, (bit_name enter, (word_name _ refl refl, (bit_name leave, tt)))))))))
told_names (tells_edge from to None count) told = (word_name _ refl refl, (word_name _ refl refl, (numeral_name from (omega (arith, told.0)), (numeral_name to (omega (arith, told.1)), (word_name _ refl refl, (numeral_name count (omega (arith, told.3)), tt))))))
told_names (tells_edge from to (Some weight) count) told = (word_name _ refl refl, (word_name _ refl refl, (numeral_name from (omega (arith, told.0)), (numeral_name to (omega (arith, told.1)), (word_name _ refl refl, (weight_name weight told.2, (word_name _ refl refl, (numeral_name count (omega (arith, told.3)), tt))))))))
told_names (ends_flow cost) told = (word_name _ refl refl, (word_name _ refl refl, (numeral_name cost told, tt)))
told_names (ends_cut least most) told = (word_name _ refl refl, (word_name _ refl refl, (numeral_name least told.0, (numeral_name most told.1, tt))))

fields_read : (line : Line) → CanBeTold line → (behind_mark (line_fields line) >>= line_by_fields) ≡ Some line
unfolding line_by_fields function_line_of block_line_of weighed_of counted_of sided_of edge_line_of joined_of taken_of end_line_of
fields_read (begins_flow name) told = refl
fields_read (begins_cut name root) told = rw (bit_read root)
fields_read (tells_count number weight count enter leave) told =
    rw (place_read number told.0, weight_read weight told.1, place_read count told.2, price_read enter told.3, price_read leave told.4)
fields_read (tells_sides number weight enter leave) told =
    rw (place_read number told.0, weight_read weight told.1, bit_read enter, bit_read leave)
fields_read (tells_edge from to None count) told = rw (place_read from told.0, place_read to told.1, place_read count told.3)
fields_read (tells_edge from to (Some weight) count) told =
    rw (place_read from told.0, place_read to told.1, weight_read weight told.2, place_read count told.3)
fields_read (ends_flow cost) told = rw (sum_read cost told)
fields_read (ends_cut least most) told = rw (sum_read least told.0, sum_read most told.1)

pub written_lines_are_read : WrittenLinesAreRead
unfolding line_of
written_lines_are_read line told =
    ap (λ (fs : List (List ℕ)). behind_mark fs >>= line_by_fields) (spaced_read (line_fields line) (told_names line told)) ∙ fields_read line told
