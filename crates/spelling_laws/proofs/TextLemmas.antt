-- The lines of a text that is written, and that none of them is passed over.
use Rattle.std.proofs.Common.{◌≡◌, ◌<◌, ◌^◌, ℕ, zero, suc, ◌+◌, ◌==◌, ◌||◌, not, Bool, true, false, cond, List, [], ◌∷◌, ◌++◌, map, drop, length, nat_eq, refl, sym, ap, subst, ◌∙◌, arith, append_assoc, append-nil}
use Rattle.std.specs.Prelude.{codes, decimal}
use Rattle.std.specs.Cmp.Lexicographic.{pointwise}
use Rattle.std.specs.List.{AllByRecursion, enumerate_from, flat_map, list_any, position_or_len, starts_with}
use Rattle.std.proofs.lemmas.Bool.{true≢false}
use Rattle.std.proofs.lemmas.Bool.Decides.{nat_tests}
use Rattle.std.proofs.lemmas.List.Concat.{flat_map-append}
use Rattle.std.proofs.lemmas.List.Folds.{flat_map-map}
use Rattle.text_model.proofs.FieldLemmas.{fields_of-blank, fields_of-first}
use Rattle.text_model.proofs.LawLemmas.{lines_split}
use Rattle.text_model.specs.Fields.{fields_of, is_blank}
use Rattle.text_model.specs.Laws.{HasNoLineFeed, ended}
use Rattle.text_model.specs.Lines.{is_line_feed, lines_of}
use Rattle.text_model.specs.LineTests.{is_blank_line}
use Rattle.profile_model.specs.Judging.{kept_lines, kept_lines_of}
use Rattle.profile_model.specs.Profile.{Line, function_line, body_line, call_line}
use Rattle.profile_model.specs.Reading.{behind_spaces, is_passed}
use Rattle.profile_model.specs.Standing.{depth_of}
use Rattle.profile_model.specs.Text.{indent, line_text, location_text, named_text, target_text, text_of_lines}
use Rattle.spelling_laws.specs.Lines.{CanBeTold, IsNamed}
use Rattle.spelling_laws.specs.Told.{IsComment}
use Rattle.spelling_laws.proofs.ByteLemmas.{Lacks, IsNoDigit, both_lack, decimal_lacks, name_lacks}
use Rattle.spelling_laws.proofs.ReadLemmas.{Starts, behind_them, function_starts, named_apart, place_and_rest, place_lacks, place_starts}

-- ---- no line feed

feed_no_digit : IsNoDigit 10
feed_no_digit small = absurd (omega (arith, small))

named_lacks_feed : (name : List ℕ) (n : ℕ) → IsNamed (name, n) → Lacks 10 (named_text name n)
named_lacks_feed name n named =
    subst (Lacks 10) (sym (named_apart name n))
    (both_lack 10 name (58 ∷ decimal n) (name_lacks 10 name refl named.0) (refl, decimal_lacks 10 n feed_no_digit named.1))

indent_lacks : (depth : ℕ) → Lacks 10 (indent depth)
indent_lacks zero = tt
indent_lacks (suc depth) = (refl, indent_lacks depth)

targets_lack : (targets : List (List ℕ × ℕ)) → AllByRecursion IsNamed targets → Lacks 10 (flat_map target_text targets)
targets_lack [] all = tt
targets_lack (target ∷ targets) all =
    both_lack 10 (32 ∷ named_text target.0 target.1) (flat_map target_text targets) (refl, named_lacks_feed target.0 target.1 all.0) (targets_lack targets all.1)

place_lacks_feed : (depth offset disc : ℕ) → offset < 2 ^ 16 → disc < 2 ^ 32 → Lacks 10 (indent depth ++ location_text offset disc ++ codes ": ")
place_lacks_feed depth offset disc low disc_low =
    both_lack 10 (indent depth ++ location_text offset disc) (codes ": ")
    (both_lack 10 (indent depth) (location_text offset disc) (indent_lacks depth) (place_lacks 10 offset disc feed_no_digit refl (omega (arith, low)) (omega (arith, disc_low))))
    (refl, (refl, tt))

line_lacks_feed : (line : Line) → CanBeTold line → Lacks 10 (line_text line)
line_lacks_feed (function_line name total head) told =
    both_lack 10 (named_text name total ++ codes ":") (decimal head)
    (both_lack 10 (named_text name total) (codes ":") (named_lacks_feed name total told.0) (refl, tt))
    (decimal_lacks 10 head feed_no_digit told.1)
line_lacks_feed (body_line depth offset disc count targets) told =
    both_lack 10 (indent depth ++ location_text offset disc ++ codes ": " ++ decimal count) (flat_map target_text targets)
    (both_lack 10 (indent depth ++ location_text offset disc ++ codes ": ") (decimal count) (place_lacks_feed depth offset disc told.0.1 told.0.2) (decimal_lacks 10 count feed_no_digit told.1))
    (targets_lack targets told.2)
line_lacks_feed (call_line depth offset disc name total) told =
    both_lack 10 (indent depth ++ location_text offset disc ++ codes ": ") (named_text name total) (place_lacks_feed depth offset disc told.0.1 told.0.2) (named_lacks_feed name total told.1)

no_feed : (bytes : List ℕ) → Lacks 10 bytes → list_any is_line_feed bytes ≡ false
no_feed [] lacks = refl
no_feed (b ∷ bytes) lacks = ap (λ t. t || list_any is_line_feed bytes) lacks.0 ∙ no_feed bytes lacks.1

-- ---- lines that are not passed over

-- a line is its spaces, and a text that begins with another byte
record Begins (line : Line) : Type 0 where
  text : List ℕ
  is : line_text line ≡ indent (depth_of line) ++ text
  starts : Starts text

line_begins : (line : Line) → CanBeTold line → Begins line
line_begins (function_line name total head) told = record { text = line_text (function_line name total head); is = refl; starts = function_starts name total head told.0.0 }
line_begins (body_line depth offset disc count targets) told =
    let rest = decimal count ++ flat_map target_text targets in
    record {
      text = (location_text offset disc ++ 58 ∷ []) ++ 32 ∷ rest;
      is = append_assoc (indent depth ++ location_text offset disc ++ codes ": ") (decimal count) (flat_map target_text targets) ∙ place_and_rest depth offset disc rest;
      starts = place_starts offset disc rest (let low = told.0.1 in omega (arith, low));
    }
line_begins (call_line depth offset disc name total) told = record {
  text = (location_text offset disc ++ 58 ∷ []) ++ 32 ∷ named_text name total;
  is = place_and_rest depth offset disc (named_text name total);
  starts = place_starts offset disc (named_text name total) (let low = told.0.1 in omega (arith, low));
}

fields_behind : (depth : ℕ) (text : List ℕ) → fields_of (indent depth ++ text) ≡ fields_of text
fields_behind zero text = refl
fields_behind (suc depth) text = fields_of-blank 32 (indent depth ++ text) refl ∙ fields_behind depth text

has_field : (b : ℕ) (rest : List ℕ) → (b == 32) ≡ false → (b == 9) ≡ false → (length (fields_of (b ∷ rest)) == 0) ≡ false
has_field b rest no_space no_tab =
    ap (λ fields. length fields == 0) (fields_of-first (b ∷ rest) (front (b == 32) (b == 9) no_space no_tab))
    ∙ some (length (fields_of (drop (position_or_len is_blank (b ∷ rest)) (b ∷ rest))))
  where
    some : (n : ℕ) → (suc n == 0) ≡ false
    some n = grind (arith, nat_tests)

    front : (s t : Bool) → s ≡ false → t ≡ false → 0 < cond (not (s || t)) (1 + position_or_len is_blank rest) 0
    front true t e f = absurd (true≢false e)
    front false true e f = absurd (true≢false f)
    front false false e f = omega arith

not_blank : (depth : ℕ) (text : List ℕ) → Starts text → is_blank_line (indent depth ++ text) ≡ false
not_blank depth text starts =
    ap (λ fields. length fields == 0) (fields_behind depth text ∙ ap fields_of starts.is) ∙ has_field starts.first starts.rest starts.other starts.no_tab

no_comment : (text : List ℕ) → Starts text → starts_with nat_eq text (codes "#") ≡ false
no_comment text starts = ap (λ t. starts_with nat_eq t (codes "#")) starts.is ∙ other starts.first starts.no_hash
  where
    other : (b : ℕ) → (b == 35) ≡ false → pointwise nat_eq (35 ∷ []) (b ∷ []) ≡ false
    other b e = grind (arith, nat_tests)

kept_line : (line : Line) → CanBeTold line → is_passed (line_text line) ≡ false
unfolding is_passed
kept_line line told =
    let begins = line_begins line told in
    let depth = depth_of line in
    ap (λ text. is_blank_line text || starts_with nat_eq (behind_spaces text) (codes "#")) begins.is
    ∙ ap (λ b. b || starts_with nat_eq (behind_spaces (indent depth ++ begins.text)) (codes "#")) (not_blank depth begins.text begins.starts)
    ∙ ap (λ text. starts_with nat_eq text (codes "#")) (behind_them depth begins.text begins.starts)
    ∙ no_comment begins.text begins.starts

-- ---- the lines of the text

abbrev pub texts_of : List Line → List (List ℕ)
texts_of lines = map line_text lines

abbrev pub comment_text : List (List ℕ) → List ℕ
comment_text comments = flat_map ended comments

all_clean : (lines : List Line) (comments : List (List ℕ)) → AllByRecursion CanBeTold lines → AllByRecursion IsComment comments → AllByRecursion HasNoLineFeed (texts_of lines ++ comments)
all_clean [] [] told passed = tt
all_clean [] (comment ∷ comments) told passed = (passed.0.0, all_clean [] comments tt passed.1)
all_clean (line ∷ lines) comments told passed = (no_feed (line_text line) (line_lacks_feed line told.0), all_clean lines comments told.1 passed)

pub lines_are : (lines : List Line) (comments : List (List ℕ)) → AllByRecursion CanBeTold lines → AllByRecursion IsComment comments
    → lines_of (text_of_lines lines ++ comment_text comments) ≡ texts_of lines ++ comments
unfolding text_of_lines
lines_are lines comments told passed =
    (lines_split (text_of_lines lines ++ comment_text comments) (texts_of lines ++ comments) (texts_of lines ++ comments) [] (record {
      clean = all_clean lines comments told passed;
      open_end = refl;
      joined =
          ap (λ text. text ++ comment_text comments) (sym (flat_map-map ended line_text lines))
          ∙ sym (flat_map-append ended (texts_of lines) comments) ∙ sym (append-nil (flat_map ended (texts_of lines ++ comments)));
      all = sym (append-nil (texts_of lines ++ comments));
    })).1

none_kept : (n : ℕ) (comments : List (List ℕ)) → AllByRecursion IsComment comments → kept_lines (enumerate_from n comments) ≡ []
unfolding kept_lines
none_kept n [] passed = refl
none_kept n (comment ∷ comments) passed =
    ap (λ b. cond (not b) ((n, comment) ∷ kept_lines (enumerate_from (n + 1) comments)) (kept_lines (enumerate_from (n + 1) comments))) passed.0.1
    ∙ none_kept (n + 1) comments passed.1

all_kept : (n : ℕ) (lines : List Line) (comments : List (List ℕ)) → AllByRecursion CanBeTold lines → AllByRecursion IsComment comments
    → kept_lines (enumerate_from n (texts_of lines ++ comments)) ≡ enumerate_from n (texts_of lines)
unfolding kept_lines
all_kept n [] comments told passed = none_kept n comments passed
all_kept n (line ∷ lines) comments told passed =
    ap (λ b. cond (not b) ((n, line_text line) ∷ kept_lines (enumerate_from (n + 1) (texts_of lines ++ comments))) (kept_lines (enumerate_from (n + 1) (texts_of lines ++ comments)))) (kept_line line told.0)
    ∙ ap (λ rest. (n, line_text line) ∷ rest) (all_kept (n + 1) lines comments told.1 passed)

pub kept_lines_are : (lines : List Line) (comments : List (List ℕ)) → AllByRecursion CanBeTold lines → AllByRecursion IsComment comments
    → kept_lines_of (text_of_lines lines ++ comment_text comments) ≡ enumerate_from 1 (texts_of lines)
kept_lines_are lines comments told passed =
    ap (λ all. kept_lines (enumerate_from 1 all)) (lines_are lines comments told passed) ∙ all_kept 1 lines comments told passed
