-- The laws.
use Rattle.std.proofs.Common.{◌≡◌, ℕ, zero, suc, ◌<◌, ◌≤◌, Bool, true, false, List, [], ◌∷◌, ◌++◌, map, filter, refl, arith, sym, ◌∙◌, ap, length, append_assoc, Some, All, inl, inr}
use Rattle.std.proofs.Common.{subst}
use Rattle.std.specs.Prelude.{ℤ, pos, negsuc, drop, unsigned_abs, nat_eq, ◌^◌}
use Rattle.std.specs.Char.{is_digit, digit_value}
use Rattle.std.specs.List.{AllByRecursion, flat_map, list_all, list_any}
use Rattle.std.specs.Fmt.{digits, decimal}
use Rattle.std.specs.Str.Parse.{AllDigits, IsNumeral, digits_value}
use Rattle.std.proofs.lemmas.Bool.{and_parts, lt-ltb, ltb-true, eqb-true, ne_eqb, cases_eq, or_parts}
use Rattle.std.proofs.lemmas.List.{length-append}
use Rattle.std.proofs.lemmas.Fmt.{digits_is_IsNumeral, decimal_is_IsNumeral_wide}
use Rattle.text_model.specs.Fields.{fields_of, is_blank, is_filled}
use Rattle.text_model.specs.Lines.{is_line_feed, lines_of, ended_lines_of}
use Rattle.text_model.specs.Numbers.{hex_text, number_of, has_minus, signed_of, signed_text}
use Rattle.text_model.specs.Laws.{ended, HasNoLineFeed, IsTextOf, LinesJoin, LinesSplit, IsSpaced, spaced, IsLineOf, FieldsJoin, FieldsSplit, DecimalTextIsRead, HexTextIsRead, SignedTextIsRead}
use Rattle.text_model.proofs.LineLemmas.{lines_of-nil, lines_of-ended, lines_of-last, ended_lines_of-ended, ended_lines_of-last}
use Rattle.text_model.proofs.FieldLemmas.{fields_of-nil, fields_of-blank, fields_of-ended, fields_of-last}
use Rattle.text_model.proofs.NumberLemmas.{number_of-digits, prefixed_of-behind}

-- ---- numbers

all_digits : (base : ℕ) (ds : List ℕ) → AllDigits base ds → list_all (λ c. is_digit c base) ds ≡ true
all_digits base [] h = refl
all_digits base (d ∷ ds) h = rw (lt-ltb (digit_value d) base h.0, all_digits base ds h.1)

numeral_read : (base : ℕ) (ds : List ℕ) (n : ℕ) → IsNumeral base ds → digits_value base ds ≡ n → number_of base ds ≡ Some n
numeral_read base ds n numeral is = number_of-digits base ds numeral.0 (all_digits base ds numeral.1) ∙ ap Some is

pub decimal_text_is_read : DecimalTextIsRead
decimal_text_is_read n small =
    let read = decimal_is_IsNumeral_wide n (omega (arith, small)) in
    numeral_read 10 (decimal n) n read.0 read.1

no_minus : (ds : List ℕ) → IsNumeral 10 ds → has_minus ds ≡ false
no_minus [] numeral = absurd (omega (arith, numeral.0))
no_minus (d ∷ ds) numeral =
    elim (cases_eq d 45) [
      | inl is ↦ let small : digit_value 45 < 10 = subst (λ (b : ℕ). digit_value b < 10) is numeral.1.0 in absurd (omega (arith, small))
      | inr other ↦ rw (ne_eqb 45 d (λ e. other (sym e)))
    ]

pub signed_text_is_read : SignedTextIsRead
unfolding signed_of
signed_text_is_read (pos n) small =
    let read = decimal_is_IsNumeral_wide n (omega (arith, small)) in
    rw (no_minus (decimal n) read.0, numeral_read 10 (decimal n) n read.0 read.1)
signed_text_is_read (negsuc n) small =
    let read = decimal_is_IsNumeral_wide (suc n) (omega (arith, small)) in
    rw (numeral_read 10 (decimal (suc n)) (suc n) read.0 read.1)

pub hex_text_is_read : HexTextIsRead
unfolding hex_text
hex_text_is_read n small =
    let read = digits_is_IsNumeral 16 false (omega arith) (omega arith) n (omega (arith, small)) in
    prefixed_of-behind (hex_text n) refl ∙ numeral_read 16 (digits 16 false n) n read.0 read.1

-- ---- lines

none_from_any : (p : ℕ → Bool) (xs : List ℕ) → list_any p xs ≡ false → All (λ b. p b ≡ false) xs
none_from_any p [] none k d within = absurd (omega (arith, within))
none_from_any p (x ∷ xs) none zero d within = (or_parts (p x) (list_any p xs) none).0
none_from_any p (x ∷ xs) none (suc k) d within = none_from_any p xs (or_parts (p x) (list_any p xs) none).1 k d (omega (arith, within))

rest_lines : (rest : List ℕ) → HasNoLineFeed rest → (ended_lines_of rest ≡ []) × (lines_of rest ≡ filter is_filled (rest ∷ []))
rest_lines [] clean = (ended_lines_of-last [] (none_from_any is_line_feed [] refl), lines_of-nil)
rest_lines (b ∷ rest) clean =
    let none = none_from_any is_line_feed (b ∷ rest) clean in
    (ended_lines_of-last (b ∷ rest) none, rw (lt-ltb 0 (length (b ∷ rest)) (omega arith)) (lines_of-last b rest none))

made_lines : (ls : List (List ℕ)) (rest : List ℕ) → AllByRecursion HasNoLineFeed ls → HasNoLineFeed rest
    → (ended_lines_of (flat_map ended ls ++ rest) ≡ ls) × (lines_of (flat_map ended ls ++ rest) ≡ ls ++ filter is_filled (rest ∷ []))
made_lines [] rest clean open_end = rest_lines rest open_end
made_lines (l ∷ ls) rest clean open_end =
    let behind = made_lines ls rest clean.1 open_end in
    let none = none_from_any is_line_feed l clean.0 in
    let text = flat_map ended ls ++ rest in
    let shape : flat_map ended (l ∷ ls) ++ rest ≡ l ++ 10 ∷ text = rw (append_assoc, append_assoc) in
    (ap ended_lines_of shape ∙ ended_lines_of-ended l text none ∙ ap (λ xs. l ∷ xs) behind.0, ap lines_of shape ∙ lines_of-ended l text none ∙ ap (λ xs. l ∷ xs) behind.1)

pub lines_split : LinesSplit
lines_split text ended_lines lines rest made =
    let split = made_lines ended_lines rest made.clean made.open_end in
    (ap ended_lines_of made.joined ∙ split.0, ap lines_of made.joined ∙ split.1 ∙ sym made.all)

-- some way to take a text apart
IsSomeText : List ℕ → List (List ℕ) → List ℕ → Type 0
IsSomeText text ls rest = IsTextOf text ls (ls ++ filter is_filled (rest ∷ [])) rest

text_apart : (text : List ℕ) → (ls : List (List ℕ)) × (rest : List ℕ) × IsSomeText text ls rest
unfolding IsSomeText
text_apart [] = ([], [], record { clean = tt; open_end = refl; joined = refl; all = refl })
text_apart (b ∷ text) =
    let (ls, rest, made) = text_apart text in
    byte_before b text ls rest (is_line_feed b) refl made
  where
    byte_before : (b : ℕ) (text : List ℕ) (ls : List (List ℕ)) (rest : List ℕ) (v : Bool) → is_line_feed b ≡ v → IsSomeText text ls rest → (ls : List (List ℕ)) × (rest : List ℕ) × IsSomeText (b ∷ text) ls rest
    byte_before b text ls rest true is made =
        ([] ∷ ls, rest, record { clean = (refl, made.clean); open_end = made.open_end; joined = rw (eqb-true b 10 is) (ap (λ t. 10 ∷ t) made.joined); all = refl })
    byte_before b text [] rest false is made =
        ([], b ∷ rest, record { clean = tt; open_end = rw is made.open_end; joined = ap (λ t. b ∷ t) made.joined; all = refl })
    byte_before b text (l ∷ ls) rest false is made =
        ((b ∷ l) ∷ ls, rest, record { clean = (rw is made.clean.0, made.clean.1); open_end = made.open_end; joined = ap (λ t. b ∷ t) made.joined; all = refl })

pub lines_join : LinesJoin
unfolding IsSomeText
lines_join text =
    let (ls, rest, made) = text_apart text in
    let split = lines_split text ls _ rest made in
    (rest, rw (split.0, split.1) made)

-- ---- fields

blanks_off : (lead line : List ℕ) → list_all is_blank lead ≡ true → fields_of (lead ++ line) ≡ fields_of line
blanks_off [] line blank = refl
blanks_off (b ∷ lead) line blank =
    let both = and_parts (is_blank b) (list_all is_blank lead) blank in
    fields_of-blank b (lead ++ line) both.0 ∙ blanks_off lead line both.1

rest_fields : (rest : List ℕ) → list_any is_blank rest ≡ false → fields_of rest ≡ filter is_filled (rest ∷ [])
rest_fields [] clean = fields_of-nil
rest_fields (b ∷ rest) clean =
    let some : 0 < length (b ∷ rest) = omega arith in
    rw (lt-ltb 0 (length (b ∷ rest)) some) (fields_of-last (b ∷ rest) some (none_from_any is_blank (b ∷ rest) clean))

one_field : (field blanks line : List ℕ) → IsSpaced (field, blanks) → fields_of (field ++ (blanks ++ line)) ≡ field ∷ fields_of line
one_field field [] line is = absurd (omega (arith, ltb-true 0 (length {A = ℕ} []) is.apart))
one_field field (b ∷ blanks) line is =
    let both = and_parts (is_blank b) (list_all is_blank blanks) is.blank in
    fields_of-ended field b (blanks ++ line) (ltb-true 0 (length field) is.filled) (none_from_any is_blank field is.clean) both.0
    ∙ ap (λ fields. field ∷ fields) (blanks_off blanks line both.1)

made_fields : (parts : List (List ℕ × List ℕ)) (rest : List ℕ) → AllByRecursion IsSpaced parts → list_any is_blank rest ≡ false
    → fields_of (flat_map spaced parts ++ rest) ≡ map (λ part. part.0) parts ++ filter is_filled (rest ∷ [])
made_fields [] rest apart clean = rest_fields rest clean
made_fields ((field, blanks) ∷ parts) rest apart clean =
    let line = flat_map spaced parts ++ rest in
    let shape : flat_map spaced ((field, blanks) ∷ parts) ++ rest ≡ field ++ (blanks ++ line) = rw (append_assoc, append_assoc) in
    ap fields_of shape ∙ one_field field blanks line apart.0 ∙ ap (λ fields. field ∷ fields) (made_fields parts rest apart.1 clean)

pub fields_split : FieldsSplit
fields_split line fields parts lead rest made =
    ap fields_of (made.joined ∙ append_assoc lead (flat_map spaced parts) rest) ∙ blanks_off lead (flat_map spaced parts ++ rest) made.lead_blank
    ∙ made_fields parts rest made.parts_spaced made.rest_clean ∙ sym made.all

-- some way to take a line apart
IsSomeLine : List ℕ → List (List ℕ × List ℕ) → List ℕ → List ℕ → Type 0
IsSomeLine line parts lead rest = IsLineOf line (map (λ part. part.0) parts ++ filter is_filled (rest ∷ [])) parts lead rest

byte_before : (b : ℕ) (line : List ℕ) (parts : List (List ℕ × List ℕ)) (lead rest : List ℕ) (v : Bool) → is_blank b ≡ v → IsSomeLine line parts lead rest
    → (parts : List (List ℕ × List ℕ)) × (lead : List ℕ) × (rest : List ℕ) × IsSomeLine (b ∷ line) parts lead rest
unfolding IsSomeLine
byte_before b line parts lead rest true is made =
    (parts, b ∷ lead, rest, record { lead_blank = rw (is, made.lead_blank); parts_spaced = made.parts_spaced; rest_clean = made.rest_clean; joined = ap (λ t. b ∷ t) made.joined; all = refl })
byte_before b line [] [] rest false is made =
    ([], [], b ∷ rest, record { lead_blank = refl; parts_spaced = tt; rest_clean = rw is made.rest_clean; joined = ap (λ t. b ∷ t) made.joined; all = refl })
byte_before b line ((field, blanks) ∷ parts) [] rest false is made =
    let first = made.parts_spaced.0 in
    let longer : IsSpaced (b ∷ field, blanks) = record { filled = lt-ltb 0 (length (b ∷ field)) (omega arith); clean = rw is first.clean; apart = first.apart; blank = first.blank } in
    ((b ∷ field, blanks) ∷ parts, [], rest, record { lead_blank = refl; parts_spaced = (longer, made.parts_spaced.1); rest_clean = made.rest_clean; joined = ap (λ t. b ∷ t) made.joined; all = refl })
byte_before b line parts (c ∷ lead) rest false is made =
    let first : IsSpaced (b ∷ [], c ∷ lead) = record { filled = lt-ltb 0 (length (b ∷ [])) (omega arith); clean = rw is; apart = lt-ltb 0 (length (c ∷ lead)) (omega arith); blank = made.lead_blank } in
    ((b ∷ [], c ∷ lead) ∷ parts, [], rest, record { lead_blank = refl; parts_spaced = (first, made.parts_spaced); rest_clean = made.rest_clean; joined = ap (λ t. b ∷ t) made.joined; all = refl })

line_apart : (line : List ℕ) → (parts : List (List ℕ × List ℕ)) × (lead : List ℕ) × (rest : List ℕ) × IsSomeLine line parts lead rest
unfolding IsSomeLine
line_apart [] = ([], [], [], record { lead_blank = refl; parts_spaced = tt; rest_clean = refl; joined = refl; all = refl })
line_apart (b ∷ line) =
    let (parts, lead, rest, made) = line_apart line in
    byte_before b line parts lead rest (is_blank b) refl made

pub fields_join : FieldsJoin
unfolding IsSomeLine
fields_join line =
    let (parts, lead, rest, made) = line_apart line in
    (parts, lead, rest, rw (fields_split line _ parts lead rest made) made)

-- ---- a text has no more lines than bytes

length-ended : (lines : List (List ℕ)) → length lines ≤ length (flat_map ended lines)
length-ended [] = omega arith
length-ended (line ∷ lines) =
    let more = length-ended lines in
    omega (arith, more, length-append (ended line) (flat_map ended lines), length-append line (10 ∷ []))

length-filled : (rest : List ℕ) → length (filter is_filled (rest ∷ [])) ≤ length rest
length-filled [] = omega arith
length-filled (b ∷ rest) = rw (lt-ltb 0 (length (b ∷ rest)) (omega arith)) (omega arith)

pub lines_fewer : (text : List ℕ) → length (lines_of text) ≤ length text
lines_fewer text =
    let (rest, made) = lines_join text in
    omega (
      arith,
      ap length made.joined,
      ap length made.all,
      length-append (flat_map ended (ended_lines_of text)) rest,
      length-append (ended_lines_of text) (filter is_filled (rest ∷ [])),
      length-ended (ended_lines_of text),
      length-filled rest,
    )
