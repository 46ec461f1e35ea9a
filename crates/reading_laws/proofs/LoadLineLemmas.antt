-- Load lines by what they are made of.
use Rattle.std.proofs.Common.{◌≡◌, ℕ, suc, ◌+◌, ◌-◌, ◌<◌, ◌≤◌, nat_eq, nat_lt, Bool, true, false, cond, ◌&&◌, ◌||◌, List, [], ◌∷◌, ◌++◌, length, take, drop, Option, None, Some, refl, sym, ap, subst, ◌∙◌, arith, append_assoc, ◌⊎◌, inl, inr}
use Rattle.std.specs.Prelude.{◌==◌, codes, not, unwrap_or}
use Rattle.std.specs.List.{list_all, list_any, position_or_len, starts_with}
use Rattle.std.specs.Option.{option_map}
use Rattle.std.specs.Str.{bytes_eq}
use Rattle.std.proofs.lemmas.Bool.{and_parts, eq-eqb, eqb-true, lt-ltb, ltb-true, ltb-false, or_parts}
use Rattle.std.proofs.lemmas.Bool.Decides.{Decides-eqb, nat_tests}
use Rattle.std.proofs.lemmas.List.{drop_at, length-append}
use Rattle.std.proofs.lemmas.Slice.Eq.{bytes_eq-Decides, starts_is}
use Rattle.text_model.specs.Fields.{is_blank, is_filled}
use Rattle.text_model.specs.LineTests.{is_comment}
use Rattle.text_model.specs.Numbers.{prefixed_of}
use Rattle.sample_model.specs.Line.{◌>>=◌, address_of}
use Rattle.sample_model.specs.Loads.{LoadLine, behind_at, behind_ending, behind_field, behind_first, behind_where, count_before, extent_of, first_field, from_field, is_field_end, load_line_of, name_in, offset_of, parts_at}
use Rattle.sample_model.proofs.EntryLemmas.{some-from}
use Rattle.reading_laws.specs.LoadLines.{StandFirst, BeginsWithField, SpellsExtent, SpellsName, SpellsLoad, LoadLinesAreSpelled}

-- ---- options

-- ---- bytes that stand somewhere

front-is : (bytes text rest : List ℕ) → text ≡ bytes ++ rest → (starts_with nat_eq text bytes ≡ true) × (drop (length bytes) text ≡ rest)
front-is bytes text rest is =
    ((starts_is Decides-eqb text bytes _ refl).1 rest is, ap (drop (length bytes)) is ∙ drop_at bytes rest (length bytes) refl)

front-split : (bytes text : List ℕ) → starts_with nat_eq text bytes ≡ true → text ≡ bytes ++ drop (length bytes) text
front-split bytes text starts = (starts_is Decides-eqb text bytes _ refl).0 starts

abbrev stands : (List ℕ → Bool) → List ℕ → List ℕ → Bool
stands passes bytes text = starts_with nat_eq text bytes && passes (drop (length bytes) text)

stands-true : (passes : List ℕ → Bool) (bytes text rest : List ℕ) → text ≡ bytes ++ rest → passes rest ≡ true → stands passes bytes text ≡ true
stands-true passes bytes text rest is passed =
    let two = front-is bytes text rest is in
    ap (λ b. b && passes (drop (length bytes) text)) two.0 ∙ ap passes two.1 ∙ passed

stands-not : (passes : List ℕ → Bool) (bytes text other : List ℕ) → stands passes bytes text ≡ false → text ≡ bytes ++ other → passes other ≡ false
stands-not passes bytes text other not_here is =
    let two = front-is bytes text other is in
    ap passes (sym two.1) ∙ ap (λ b. b && passes (drop (length bytes) text)) (sym two.0) ∙ not_here

same_tail : (b c : ℕ) (xs ys : List ℕ) → b ∷ xs ≡ c ∷ ys → xs ≡ ys
same_tail b c xs ys is = cc

stand-found : (passes : List ℕ → Bool) (bytes text rest : List ℕ) → behind_where passes bytes text ≡ Some rest → StandFirst passes bytes text rest
stand-found passes bytes [] rest found = absurd (let none : None ≡ Some rest = found in cc)
stand-found passes bytes (b ∷ text) rest found = by_here (λ later. stand-found passes bytes text rest later) (stands passes bytes (b ∷ text)) refl found
  where
    by_here : (behind_where passes bytes text ≡ Some rest → StandFirst passes bytes text rest) → (t : Bool) → stands passes bytes (b ∷ text) ≡ t → cond t (Some (drop (length bytes) (b ∷ text))) (behind_where passes bytes text) ≡ Some rest
        → StandFirst passes bytes (b ∷ text) rest
    by_here again true is here =
        let two = and_parts (starts_with nat_eq (b ∷ text) bytes) (passes (drop (length bytes) (b ∷ text))) is in
        let same : drop (length bytes) (b ∷ text) ≡ rest = cc here in
        record {
          front = [];
          text_is = front-split bytes (b ∷ text) two.0 ∙ ap (λ r. bytes ++ r) same;
          passed = ap passes (sym same) ∙ two.1;
          first = λ shorter other low. absurd (omega (arith, low));
        }
    by_here again false is here =
        let later = again here in
        record {
          front = b ∷ later.front;
          text_is = ap (λ t. b ∷ t) later.text_is;
          passed = later.passed;
          first = first later;
        }
      where
        first : (later : StandFirst passes bytes text rest) → (shorter other : List ℕ) → length shorter < length (b ∷ later.front) → b ∷ text ≡ shorter ++ bytes ++ other → passes other ≡ false
        first later [] other low same = stands-not passes bytes (b ∷ text) other is same
        first later (c ∷ shorter) other low same = later.first shorter other (omega (arith, low)) (same_tail b c text (shorter ++ bytes ++ other) same)

found-here : (passes : List ℕ → Bool) (bytes text rest : List ℕ) → 0 < length text → text ≡ bytes ++ rest → passes rest ≡ true → behind_where passes bytes text ≡ Some rest
found-here passes bytes [] rest some is passed = absurd (omega (arith, some))
found-here passes bytes (b ∷ text) rest some is passed =
    let here = stands-true passes bytes (b ∷ text) rest is passed in
    ap (λ t. cond t (Some (drop (length bytes) (b ∷ text))) (behind_where passes bytes text)) here
    ∙ ap (λ r. Some r) (front-is bytes (b ∷ text) rest is).1

nowhere-here : (passes : List ℕ → Bool) (bytes text : List ℕ) → ((other : List ℕ) → text ≡ bytes ++ other → passes other ≡ false) → stands passes bytes text ≡ false
nowhere-here passes bytes text first = by_start (starts_with nat_eq text bytes) refl
  where
    by_start : (t : Bool) → starts_with nat_eq text bytes ≡ t → (t && passes (drop (length bytes) text)) ≡ false
    by_start false starts = refl
    by_start true starts = first (drop (length bytes) text) (front-split bytes text starts)

found-next : (passes : List ℕ → Bool) (bytes text : List ℕ) (b : ℕ) → stands passes bytes (b ∷ text) ≡ false → behind_where passes bytes (b ∷ text) ≡ behind_where passes bytes text
found-next passes bytes text b not_here =
    ap (λ t. cond t (Some (drop (length bytes) (b ∷ text))) (behind_where passes bytes text)) not_here

found-stand : (passes : List ℕ → Bool) (bytes rest front text : List ℕ) → 0 < length bytes → text ≡ front ++ bytes ++ rest → passes rest ≡ true
    → ((shorter other : List ℕ) → length shorter < length front → text ≡ shorter ++ bytes ++ other → passes other ≡ false)
    → behind_where passes bytes text ≡ Some rest
found-stand passes bytes rest [] text some is passed first =
    found-here passes bytes text rest (omega (arith, some, simp length-append at (ap length is))) is passed
found-stand passes bytes rest (f ∷ front) text some is passed first =
    ap (behind_where passes bytes) is
    ∙ found-next passes bytes (front ++ bytes ++ rest) f
    (nowhere-here passes bytes (f ∷ (front ++ bytes ++ rest)) (λ other same. first [] other (omega arith) (is ∙ same)))
    ∙ found-stand passes bytes rest front (front ++ bytes ++ rest) some refl passed
    (λ shorter other low same. first (f ∷ shorter) other (omega (arith, low)) (is ∙ ap (λ t. f ∷ t) same))

stand-back : (passes : List ℕ → Bool) (bytes text rest : List ℕ) → 0 < length bytes → StandFirst passes bytes text rest → behind_where passes bytes text ≡ Some rest
stand-back passes bytes text rest some is = found-stand passes bytes rest is.front text some is.text_is is.passed is.first

-- ---- fields

-- how many bytes stand before the first of a kind, byte by byte
past-one : (n len : ℕ) → unwrap_or (cond (nat_lt (1 + n) (suc len)) (Some (1 + n)) None) (suc len) ≡ suc (unwrap_or (cond (nat_lt n len) (Some n) None) len)
past-one n len = by_test (nat_lt n len) refl
  where
    by_test : (t : Bool) → nat_lt n len ≡ t → unwrap_or (cond (nat_lt (1 + n) (suc len)) (Some (1 + n)) None) (suc len) ≡ suc (unwrap_or (cond t (Some n) None) len)
    by_test true is =
        let low : nat_lt (1 + n) (suc len) ≡ true = grind (arith, nat_tests) in
        ap (λ t. unwrap_or (cond t (Some (1 + n)) None) (suc len)) low ∙ (let one : 1 + n ≡ suc n = omega arith in one)
    by_test false is =
        let past : nat_lt (1 + n) (suc len) ≡ false = grind (arith, nat_tests) in
        ap (λ t. unwrap_or (cond t (Some (1 + n)) None) (suc len)) past

count-cons : (test : ℕ → Bool) (b : ℕ) (text : List ℕ) → count_before test (b ∷ text) ≡ cond (test b) 0 (suc (count_before test text))
count-cons test b text = by_test (test b) refl
  where
    by_test : (t : Bool) → test b ≡ t → count_before test (b ∷ text) ≡ cond t 0 (suc (count_before test text))
    by_test true is =
        let none : position_or_len test (b ∷ text) ≡ 0 = ap (λ t. cond (not t) (1 + position_or_len test text) 0) is in
        let low : nat_lt 0 (suc (length text)) ≡ true = grind (arith, nat_tests) in
        ap (λ n. unwrap_or (cond (nat_lt n (suc (length text))) (Some n) None) (suc (length text))) none
        ∙ ap (λ t. unwrap_or (cond t (Some 0) None) (suc (length text))) low
    by_test false is =
        let more : position_or_len test (b ∷ text) ≡ 1 + position_or_len test text = ap (λ t. cond (not t) (1 + position_or_len test text) 0) is in
        ap (λ n. unwrap_or (cond (nat_lt n (suc (length text))) (Some n) None) (suc (length text))) more
        ∙ past-one (position_or_len test text) (length text)

abbrev filled_byte : ℕ → Bool
filled_byte b = not (is_blank b)

from-blank : (b : ℕ) (text : List ℕ) → is_blank b ≡ true → from_field (b ∷ text) ≡ from_field text
from-blank b text is =
    ap (λ n. drop n (b ∷ text)) (count-cons filled_byte b text ∙ ap (λ t. cond (not t) 0 (suc (count_before filled_byte text))) is)

from-filled : (b : ℕ) (text : List ℕ) → is_blank b ≡ false → from_field (b ∷ text) ≡ b ∷ text
from-filled b text is =
    ap (λ n. drop n (b ∷ text)) (count-cons filled_byte b text ∙ ap (λ t. cond (not t) 0 (suc (count_before filled_byte text))) is)

from-blanks : (blanks text : List ℕ) → list_all is_blank blanks ≡ true → from_field (blanks ++ text) ≡ from_field text
from-blanks [] text all = refl
from-blanks (b ∷ blanks) text all =
    let two = and_parts (is_blank b) (list_all is_blank blanks) all in
    from-blank b (blanks ++ text) two.0 ∙ from-blanks blanks text two.1

-- the blanks in front of a text
record Blanks (text : List ℕ) : Type 0 where
  blanks : List ℕ
  text_is : text ≡ blanks ++ from_field text
  blank : list_all is_blank blanks ≡ true

blanks-of : (text : List ℕ) → Blanks text
blanks-of [] = record { blanks = []; text_is = refl; blank = refl }
blanks-of (b ∷ text) = by_test (blanks-of text) (is_blank b) refl
  where
    by_test : Blanks text → (t : Bool) → is_blank b ≡ t → Blanks (b ∷ text)
    by_test later true is =
        record {
          blanks = b ∷ later.blanks;
          text_is = ap (λ t. b ∷ t) later.text_is ∙ ap (λ t. b ∷ later.blanks ++ t) (sym (from-blank b text is));
          blank = ap (λ t. t && list_all is_blank later.blanks) is ∙ later.blank;
        }
    by_test later false is = record { blanks = []; text_is = sym (from-filled b text is); blank = refl }

-- behind them stands nothing or a byte that is none
begins : (text : List ℕ) → (from_field text ≡ []) ⊎ (is_field_end (from_field text) ≡ false)
begins [] = inl refl
begins (b ∷ text) = by_test (begins text) (is_blank b) refl
  where
    by_test : (from_field text ≡ []) ⊎ (is_field_end (from_field text) ≡ false) → (t : Bool) → is_blank b ≡ t → (from_field (b ∷ text) ≡ []) ⊎ (is_field_end (from_field (b ∷ text)) ≡ false)
    by_test later true is = subst (λ t. (t ≡ []) ⊎ (is_field_end t ≡ false)) (sym (from-blank b text is)) later
    by_test later false is = inr (ap is_field_end (from-filled b text is) ∙ is)

abbrev run_of : List ℕ → List ℕ
run_of text = take (count_before is_blank text) text

abbrev behind_run : List ℕ → List ℕ
behind_run text = drop (count_before is_blank text) text

run-blank : (b : ℕ) (text : List ℕ) → is_blank b ≡ true → (run_of (b ∷ text) ≡ []) × (behind_run (b ∷ text) ≡ b ∷ text)
run-blank b text is =
    let none : count_before is_blank (b ∷ text) ≡ 0 = count-cons is_blank b text ∙ ap (λ t. cond t 0 (suc (count_before is_blank text))) is in
    (ap (λ n. take n (b ∷ text)) none, ap (λ n. drop n (b ∷ text)) none)

run-filled : (b : ℕ) (text : List ℕ) → is_blank b ≡ false → (run_of (b ∷ text) ≡ b ∷ run_of text) × (behind_run (b ∷ text) ≡ behind_run text)
run-filled b text is =
    let more : count_before is_blank (b ∷ text) ≡ suc (count_before is_blank text) = count-cons is_blank b text ∙ ap (λ t. cond t 0 (suc (count_before is_blank text))) is in
    (ap (λ n. take n (b ∷ text)) more, ap (λ n. drop n (b ∷ text)) more)

run-is : (field rest : List ℕ) → list_any is_blank field ≡ false → is_field_end rest ≡ true → (run_of (field ++ rest) ≡ field) × (behind_run (field ++ rest) ≡ rest)
run-is [] [] unbroken whole = (refl, refl)
run-is [] (b ∷ rest) unbroken whole = run-blank b rest whole
run-is (f ∷ field) rest unbroken whole =
    let two = or_parts (is_blank f) (list_any is_blank field) unbroken in
    let one = run-filled f (field ++ rest) two.0 in
    let later = run-is field rest two.1 whole in
    (one.0 ∙ ap (λ t. f ∷ t) later.0, one.1 ∙ later.1)

record Run (text : List ℕ) : Type 0 where
  text_is : text ≡ run_of text ++ behind_run text
  unbroken : list_any is_blank (run_of text) ≡ false
  whole : is_field_end (behind_run text) ≡ true

run-split : (text : List ℕ) → Run text
run-split [] = record { text_is = refl; unbroken = refl; whole = refl }
run-split (b ∷ text) = by_test (run-split text) (is_blank b) refl
  where
    by_test : Run text → (t : Bool) → is_blank b ≡ t → Run (b ∷ text)
    by_test later true is =
        let two = run-blank b text is in
        record {
          text_is = (λ i. sym two.0 i ++ sym two.1 i);
          unbroken = ap (list_any is_blank) two.0;
          whole = ap is_field_end two.1 ∙ is;
        }
    by_test later false is =
        let two = run-filled b text is in
        record {
          text_is = ap (λ t. b ∷ t) later.text_is ∙ (λ i. sym two.0 i ++ sym two.1 i);
          unbroken = ap (list_any is_blank) two.0 ∙ ap (λ t. t || list_any is_blank (run_of text)) is ∙ later.unbroken;
          whole = ap is_field_end two.1 ∙ later.whole;
        }

field-there : (text : List ℕ) → 0 < length (first_field text) → BeginsWithField text (first_field text) (behind_field text)
field-there text some =
    let front = blanks-of text in
    let run = run-split (from_field text) in
    record {
      blanks = front.blanks;
      text_is = front.text_is ∙ ap (λ t. front.blanks ++ t) run.text_is ∙ sym (append_assoc front.blanks (first_field text) (behind_field text));
      blank = front.blank;
      unbroken = run.unbroken;
      filled = some;
      whole = run.whole;
    }

from-field : (field rest : List ℕ) → 0 < length field → list_any is_blank field ≡ false → from_field (field ++ rest) ≡ field ++ rest
from-field [] rest some unbroken = absurd (omega (arith, some))
from-field (f ∷ field) rest some unbroken = from-filled f (field ++ rest) (or_parts (is_blank f) (list_any is_blank field) unbroken).0

field-back : (text field rest : List ℕ) → BeginsWithField text field rest → (first_field text ≡ field) × (behind_field text ≡ rest)
field-back text field rest is =
    let from : from_field text ≡ field ++ rest =
    ap from_field (is.text_is ∙ append_assoc is.blanks field rest) ∙ from-blanks is.blanks (field ++ rest) is.blank ∙ from-field field rest is.filled is.unbroken in
    let run = run-is field rest is.unbroken is.whole in
    (ap run_of from ∙ run.0, ap behind_run from ∙ run.1)

-- ---- the parts around a byte

abbrev is_byte : ℕ → ℕ → Bool
is_byte byte b = b == byte

abbrev longer : ℕ → List ℕ × List ℕ → List ℕ × List ℕ
longer b parts = (b ∷ parts.0, parts.1)

abbrev parts_by : List ℕ → Option ℕ → Option (List ℕ × List ℕ)
parts_by text place = option_map (λ at. (take at text, drop (at + 1) text)) place

parts-past : (b : ℕ) (text : List ℕ) (n len : ℕ)
    → parts_by (b ∷ text) (cond (nat_lt (1 + n) (suc len)) (Some (1 + n)) None) ≡ option_map (longer b) (parts_by text (cond (nat_lt n len) (Some n) None))
parts-past b text n len = by_test (nat_lt n len) refl
  where
    by_test : (t : Bool) → nat_lt n len ≡ t
        → parts_by (b ∷ text) (cond (nat_lt (1 + n) (suc len)) (Some (1 + n)) None) ≡ option_map (longer b) (parts_by text (cond t (Some n) None))
    by_test true is =
        let low : nat_lt (1 + n) (suc len) ≡ true = grind (arith, nat_tests) in
        let one : 1 + n ≡ suc n = omega arith in
        let next : suc n + 1 ≡ suc (n + 1) = omega arith in
        ap (λ t. parts_by (b ∷ text) (cond t (Some (1 + n)) None)) low
        ∙ ap (λ k. parts_by (b ∷ text) (Some k)) one
        ∙ ap (λ k. Some (b ∷ take n text, drop k (b ∷ text))) next
    by_test false is =
        let past : nat_lt (1 + n) (suc len) ≡ false = grind (arith, nat_tests) in
        ap (λ t. parts_by (b ∷ text) (cond t (Some (1 + n)) None)) past

parts-here : (byte b : ℕ) (text : List ℕ) → (b == byte) ≡ true → parts_at byte (b ∷ text) ≡ Some ([], text)
parts-here byte b text is =
    let none : position_or_len (is_byte byte) (b ∷ text) ≡ 0 = ap (λ t. cond (not t) (1 + position_or_len (is_byte byte) text) 0) is in
    let low : nat_lt 0 (suc (length text)) ≡ true = grind (arith, nat_tests) in
    ap (λ n. parts_by (b ∷ text) (cond (nat_lt n (suc (length text))) (Some n) None)) none
    ∙ ap (λ t. parts_by (b ∷ text) (cond t (Some 0) None)) low

parts-later : (byte b : ℕ) (text : List ℕ) → (b == byte) ≡ false → parts_at byte (b ∷ text) ≡ option_map (longer b) (parts_at byte text)
parts-later byte b text is =
    let more : position_or_len (is_byte byte) (b ∷ text) ≡ 1 + position_or_len (is_byte byte) text = ap (λ t. cond (not t) (1 + position_or_len (is_byte byte) text) 0) is in
    ap (λ n. parts_by (b ∷ text) (cond (nat_lt n (suc (length text))) (Some n) None)) more
    ∙ parts-past b text (position_or_len (is_byte byte) text) (length text)

-- a text parts at the first such byte
record Parts (byte : ℕ) (text front rest : List ℕ) : Type 0 where
  text_is : text ≡ front ++ byte ∷ rest
  none_before : list_any (is_byte byte) front ≡ false

parts-found : (byte : ℕ) (text : List ℕ) (parts : List ℕ × List ℕ) → parts_at byte text ≡ Some parts → Parts byte text parts.0 parts.1
parts-found byte [] parts found = absurd (let none : None ≡ Some parts = found in cc)
parts-found byte (b ∷ text) parts found = by_test (λ later there. parts-found byte text later there) (b == byte) refl
  where
    by_later : ((later : List ℕ × List ℕ) → parts_at byte text ≡ Some later → Parts byte text later.0 later.1) → (o : Option (List ℕ × List ℕ)) → parts_at byte text ≡ o → (b == byte) ≡ false → option_map (longer b) o ≡ Some parts → Parts byte (b ∷ text) parts.0 parts.1
    by_later again None none is e = absurd (let f : None ≡ Some parts = e in cc)
    by_later again (Some later) there is e =
        let f : Some (longer b later) ≡ Some parts = e in
        let same : longer b later ≡ parts = cc in
        let rest = again later there in
        subst (λ (p : List ℕ × List ℕ). Parts byte (b ∷ text) p.0 p.1) same (record {
          text_is = ap (λ t. b ∷ t) rest.text_is;
          none_before = ap (λ t. t || list_any (is_byte byte) later.0) is ∙ rest.none_before;
        })

    by_test : ((later : List ℕ × List ℕ) → parts_at byte text ≡ Some later → Parts byte text later.0 later.1) → (t : Bool) → (b == byte) ≡ t → Parts byte (b ∷ text) parts.0 parts.1
    by_test again true is =
        let f : Some ([], text) ≡ Some parts = sym (parts-here byte b text is) ∙ found in
        let same : ([], text) ≡ parts = cc in
        subst (λ (p : List ℕ × List ℕ). Parts byte (b ∷ text) p.0 p.1) same (record { text_is = ap (λ c. c ∷ text) (eqb-true b byte is); none_before = refl })
    by_test again false is = by_later again (parts_at byte text) refl is (sym (parts-later byte b text is) ∙ found)

parts-back : (byte : ℕ) (front rest : List ℕ) → list_any (is_byte byte) front ≡ false → parts_at byte (front ++ byte ∷ rest) ≡ Some (front, rest)
parts-back byte [] rest none = parts-here byte byte rest (eq-eqb byte byte refl)
parts-back byte (b ∷ front) rest none =
    let two = or_parts (b == byte) (list_any (is_byte byte) front) none in
    parts-later byte b (front ++ byte ∷ rest) two.0 ∙ ap (option_map (longer b)) (parts-back byte front rest two.1)

-- ---- the parts of a load line

bound : {A B : Type 0} (o : Option A) (x : A) (f : A → Option B) (y : B) → o ≡ Some x → f x ≡ Some y → (o >>= f) ≡ Some y
bound o x f y is next = ap (λ p. p >>= f) is ∙ next

unless-true : {A : Type 0} (t : Bool) (o : Option A) (x : A) → cond t None o ≡ Some x → (t ≡ false) × (o ≡ Some x)
unless-true true o x is = absurd (let none : None ≡ Some x = is in cc)
unless-true false o x is = (refl, is)

unless-false : {A : Type 0} (t : Bool) (o : Option A) (x : A) → t ≡ false → o ≡ Some x → cond t None o ≡ Some x
unless-false t o x is next = ap (λ u. cond u None o) is ∙ next

where-true : {A : Type 0} (t : Bool) (a x : A) → cond t (Some a) None ≡ Some x → (t ≡ true) × (a ≡ x)
where-true true a x is = (refl, cc is)
where-true false a x is = absurd (let none : None ≡ Some x = is in cc)

empty : (text : List ℕ) → is_filled text ≡ false → text ≡ []
empty [] not_filled = refl
empty (b ∷ text) not_filled = absurd (let long : length (b ∷ text) ≤ 0 = ltb-false 0 (length (b ∷ text)) not_filled in omega (arith, long))

bracketed : (from count : List ℕ) → codes "[" ++ from ++ codes "(" ++ count ++ codes ")" ≡ 91 ∷ (from ++ 40 ∷ (count ++ 41 ∷ []))
bracketed from count =
    ap (λ t. 91 ∷ t) (append_assoc (from ++ 40 ∷ []) count (41 ∷ []) ∙ append_assoc from (40 ∷ []) (count ++ 41 ∷ []))

extent-found : (field : List ℕ) (extent : ℕ × ℕ) → extent_of field ≡ Some extent → SpellsExtent field extent.0 extent.1
unfolding extent_of
extent-found field extent found =
    let bracket = some-from (parts_at 91 field) _ extent found in
    let start = some-from (parts_at 40 bracket.0.1) _ extent bracket.2 in
    let len = some-from (parts_at 41 start.0.1) _ extent start.2 in
    let whole = unless-true (is_filled bracket.0.0 || is_filled len.0.1) _ extent len.2 in
    let none = or_parts (is_filled bracket.0.0) (is_filled len.0.1) whole.0 in
    let first = some-from (address_of start.0.0) _ extent whole.1 in
    let count = some-from (address_of len.0.0) _ extent first.2 in
    let same : (first.0, count.0) ≡ extent = cc count.2 in
    let a = parts-found 91 field bracket.0 bracket.1 in
    let b = parts-found 40 bracket.0.1 start.0 start.1 in
    let c = parts-found 41 start.0.1 len.0 len.1 in
    let front : bracket.0.0 ≡ [] = empty bracket.0.0 none.0 in
    let end : len.0.1 ≡ [] = empty len.0.1 none.1 in
    record {
      from = start.0.0;
      count = len.0.0;
      field_is = a.text_is ∙ ap (λ t. t ++ 91 ∷ bracket.0.1) front ∙ ap (λ t. 91 ∷ t) (b.text_is ∙ ap (λ t. start.0.0 ++ 40 ∷ t) (c.text_is ∙ ap (λ t. len.0.0 ++ 41 ∷ t) end))
          ∙ sym (bracketed start.0.0 len.0.0);
      one_opens = b.none_before;
      one_closes = c.none_before;
      start_is = first.1 ∙ ap (λ (e : ℕ × ℕ). Some e.0) same;
      len_is = count.1 ∙ ap (λ (e : ℕ × ℕ). Some e.1) same;
    }

extent-back : (field : List ℕ) (start len : ℕ) → SpellsExtent field start len → extent_of field ≡ Some (start, len)
unfolding extent_of
extent-back field start len is =
    let text : field ≡ 91 ∷ (is.from ++ 40 ∷ (is.count ++ 41 ∷ [])) = is.field_is ∙ bracketed is.from is.count in
    ap extent_of text
    ∙ bound (parts_at 91 (91 ∷ (is.from ++ 40 ∷ (is.count ++ 41 ∷ [])))) ([], is.from ++ 40 ∷ (is.count ++ 41 ∷ [])) _ (start, len) (parts-back 91 [] (is.from ++ 40 ∷ (is.count ++ 41 ∷ [])) refl)
    (bound (parts_at 40 (is.from ++ 40 ∷ (is.count ++ 41 ∷ []))) (is.from, is.count ++ 41 ∷ []) _ (start, len) (parts-back 40 is.from (is.count ++ 41 ∷ []) is.one_opens)
    (bound (parts_at 41 (is.count ++ 41 ∷ [])) (is.count, []) _ (start, len) (parts-back 41 is.count [] is.one_closes)
    (bound (address_of is.from) start _ (start, len) is.start_is
    (bound (address_of is.count) len _ (start, len) is.len_is refl))))

name-found : (text name : List ℕ) → name_in text ≡ Some name → SpellsName text name
unfolding name_in
name-found text name found =
    let two = where-true (is_filled (from_field text)) (from_field text) name found in
    let front = blanks-of text in
    let some : 0 < length (from_field text) = ltb-true 0 (length (from_field text)) two.0 in
    subst (SpellsName text) two.1 (record {
      blanks = front.blanks;
      text_is = front.text_is;
      blank = front.blank;
      filled = some;
      begins = elim (begins text) as (λ _. is_field_end (from_field text) ≡ false) [
        | inl none ↦ absurd (omega (arith, some, ap length none))
        | inr is ↦ is
      ];
    })

name-front : (name : List ℕ) → is_field_end name ≡ false → from_field name ≡ name
name-front [] ends = absurd cc
name-front (b ∷ name) ends = from-filled b name ends

name-back : (text name : List ℕ) → SpellsName text name → name_in text ≡ Some name
unfolding name_in
name-back text name is =
    let from : from_field text ≡ name = ap from_field is.text_is ∙ from-blanks is.blanks name is.blank ∙ name-front name is.begins in
    let some : nat_lt 0 (length name) ≡ true = lt-ltb 0 (length name) is.filled in
    ap (λ t. cond (is_filled t) (Some t) None) from ∙ ap (λ t. cond t (Some name) None) some

at-found : (text rest : List ℕ) → behind_at text ≡ Some rest → BeginsWithField text (codes "@") rest
unfolding behind_at
at-found text rest found =
    let two = where-true (bytes_eq (first_field text) (codes "@")) (behind_field text) rest found in
    let field : first_field text ≡ codes "@" = (bytes_eq-Decides (first_field text) (codes "@")).0 two.0 in
    let there = field-there text (omega (arith, ap length field)) in
    subst (BeginsWithField text (codes "@")) two.1 (subst (λ f. BeginsWithField text f (behind_field text)) field there)

at-back : (text rest : List ℕ) → BeginsWithField text (codes "@") rest → behind_at text ≡ Some rest
unfolding behind_at
at-back text rest is =
    let two = field-back text (codes "@") rest is in
    let same : bytes_eq (first_field text) (codes "@") ≡ true = (bytes_eq-Decides (first_field text) (codes "@")).1 two.0 in
    ap (λ t. cond t (Some (behind_field text)) None) same ∙ ap (λ t. Some t) two.1

-- what is read of no bytes is nothing
some-extent : (field : List ℕ) (extent : ℕ × ℕ) → extent_of field ≡ Some extent → 0 < length field
some-extent field extent found =
    let is = extent-found field extent found in
    omega (arith, ap length (is.field_is ∙ bracketed is.from is.count))

some-offset : (field : List ℕ) (offset : ℕ) → offset_of field ≡ Some offset → 0 < length field
unfolding offset_of address_of prefixed_of
some-offset [] offset found = absurd (let none : None ≡ Some offset = found in cc)
some-offset (b ∷ field) offset found = omega arith

-- without a field in front there is no name behind it
some-rights : (text name : List ℕ) → name_in (behind_field text) ≡ Some name → 0 < length (first_field text)
some-rights text name found = by_from (begins text)
  where
    by_from : (from_field text ≡ []) ⊎ (is_field_end (from_field text) ≡ false) → 0 < length (first_field text)
    by_from (inl none) =
        let no_text : behind_field text ≡ [] = ap behind_run none in
        let is = name-found [] name (ap name_in (sym no_text) ∙ found) in
        absurd (omega (arith, is.filled, simp length-append at (ap length is.text_is)))
    by_from (inr some) = by_run (from_field text) refl some
      where
        by_run : (t : List ℕ) → from_field text ≡ t → is_field_end t ≡ false → 0 < length (first_field text)
        by_run [] same ends = absurd cc
        by_run (b ∷ t) same ends = subst (λ u. 0 < length (run_of u)) (sym same) (subst (λ u. 0 < length u) (sym (run-filled b t ends).0) (omega arith))

-- ---- the whole line

load-found : (line : List ℕ) (load : LoadLine) → load_line_of line ≡ Some load → SpellsLoad line load
unfolding load_line_of
load-found line load found =
    let told = unless-true (is_comment line) _ load found in
    let mark = some-from (behind_first (codes "PERF_RECORD_MMAP2 ") line) _ load told.1 in
    let process = some-from (behind_ending (codes ":") mark.0) _ load mark.2 in
    let extent = some-from (extent_of (first_field process.0)) _ load process.2 in
    let place = some-from (behind_at (behind_field process.0)) _ load extent.2 in
    let offset = some-from (offset_of (first_field place.0)) _ load place.2 in
    let flags = some-from (behind_ending (codes "]:") (behind_field place.0)) _ load offset.2 in
    let name = some-from (name_in (behind_field flags.0)) _ load flags.2 in
    let made : LoadLine = record { start = extent.0.0; len = extent.0.1; offset = offset.0; name = name.0 } in
    let same : made ≡ load = cc name.2 in
    subst (SpellsLoad line) same (record {
      no_comment = told.0;
      at_mark = mark.0;
      mark = stand-found (λ _. true) (codes "PERF_RECORD_MMAP2 ") line mark.0 mark.1;
      at_extent = process.0;
      process = stand-found is_field_end (codes ":") mark.0 process.0 process.1;
      extent = first_field process.0;
      behind_extent = behind_field process.0;
      addresses = field-there process.0 (some-extent (first_field process.0) extent.0 extent.1);
      extent_is = extent-found (first_field process.0) extent.0 extent.1;
      at_offset = place.0;
      at = at-found (behind_field process.0) place.0 place.1;
      digits = first_field place.0;
      behind_offset = behind_field place.0;
      offset = field-there place.0 (some-offset (first_field place.0) offset.0 offset.1);
      offset_is = offset.1;
      at_rights = flags.0;
      device = stand-found is_field_end (codes "]:") (behind_field place.0) flags.0 flags.1;
      rights = first_field flags.0;
      at_name = behind_field flags.0;
      flags = field-there flags.0 (some-rights flags.0 name.0 name.1);
      name = name-found (behind_field flags.0) name.0 name.1;
    })

load-back : (line : List ℕ) (load : LoadLine) → SpellsLoad line load → load_line_of line ≡ Some load
unfolding load_line_of
load-back line load is =
    let addresses = field-back is.at_extent is.extent is.behind_extent is.addresses in
    let digits = field-back is.at_offset is.digits is.behind_offset is.offset in
    let flags = field-back is.at_rights is.rights is.at_name is.flags in
    unless-false (is_comment line) _ load is.no_comment
    (bound (behind_first (codes "PERF_RECORD_MMAP2 ") line) is.at_mark _ load (stand-back (λ _. true) (codes "PERF_RECORD_MMAP2 ") line is.at_mark (omega arith) is.mark)
    (bound (behind_ending (codes ":") is.at_mark) is.at_extent _ load (stand-back is_field_end (codes ":") is.at_mark is.at_extent (omega arith) is.process)
    (bound (extent_of (first_field is.at_extent)) (load.start, load.len) _ load (ap extent_of addresses.0 ∙ extent-back is.extent load.start load.len is.extent_is)
    (bound (behind_at (behind_field is.at_extent)) is.at_offset _ load (ap behind_at addresses.1 ∙ at-back is.behind_extent is.at_offset is.at)
    (bound (offset_of (first_field is.at_offset)) load.offset _ load (ap offset_of digits.0 ∙ is.offset_is)
    (bound (behind_ending (codes "]:") (behind_field is.at_offset)) is.at_rights _ load (ap (behind_ending (codes "]:")) digits.1 ∙ stand-back is_field_end (codes "]:") is.behind_offset is.at_rights (omega arith) is.device)
    (bound (name_in (behind_field is.at_rights)) load.name _ load (ap name_in flags.1 ∙ name-back is.at_name load.name is.name) refl)))))))

pub loads-spelled : LoadLinesAreSpelled
loads-spelled line load = (load-found line load, load-back line load)
