-- A line that is written is read as that line.
use Rattle.std.proofs.Common.{◌≡◌, ◌<◌, ◌^◌, ℕ, zero, suc, ◌+◌, ◌==◌, ◌&&◌, ◌||◌, nat_lt, cond, Bool, true, false, List, [], ◌∷◌, ◌++◌, map, drop, length, Option, Some, None, option_map, refl, sym, ap, subst, ◌∙◌, arith, append_assoc, append-nil}
use Rattle.std.specs.Prelude.{codes, decimal}
use Rattle.std.specs.Char.{is_ascii_digit, is_digit}
use Rattle.std.specs.List.{AllByRecursion, flat_map, list_all, prefix_len}
use Rattle.std.specs.Str.Parse.{IsNumeral, digits_value}
use Rattle.std.proofs.lemmas.Bool.{true≢false, lt-ltb}
use Rattle.std.proofs.lemmas.Bool.Decides.{nat_tests}
use Rattle.std.proofs.lemmas.List.Folds.{list_all-append}
use Rattle.text_model.proofs.LawLemmas.{decimal_text_is_read}
use Rattle.text_model.specs.Numbers.{number_of}
use Rattle.profile_model.specs.Names.{begins_no_name, is_name}
use Rattle.profile_model.specs.Profile.{function_line, body_line, call_line}
use Rattle.profile_model.specs.Reading.{◌>>=◌, within_bits, number_within, parts_at, named_by, named_of, located_by, location_by, location_of, targets_of, call_of, line_below, function_of, spaces_of, behind_spaces, line_of}
use Rattle.profile_model.specs.Text.{disc_text, location_text, named_text, target_text, indent, line_text}
use Rattle.spelling_laws.specs.Lines.{IsNamed, IsPlace, CanBeTold, LineTextIsRead}
use Rattle.spelling_laws.proofs.ByteLemmas.{Lacks, IsNoDigit, digits_lack, numeral_of, decimal_lacks, name_known, name_lacks, parts_none, parts_first, both_lack}

-- ---- numbers

colon_no_digit : IsNoDigit 58
colon_no_digit small = absurd (omega (arith, small))

pub space_no_digit : IsNoDigit 32
space_no_digit small = absurd (omega (arith, small))

dot_no_digit : IsNoDigit 46
dot_no_digit small = absurd (omega (arith, small))

pub number_is_read : (bits n : ℕ) → n < 2 ^ bits → n < 2 ^ 64 → number_within bits (decimal n) ≡ Some n
unfolding number_within
number_is_read bits n fits small =
    rw (decimal_text_is_read n (omega (arith, small)), lt-ltb n (2 ^ bits) fits)

-- ---- names with numbers

pub named_apart : (name : List ℕ) (n : ℕ) → named_text name n ≡ name ++ 58 ∷ decimal n
named_apart name n = append_assoc name (58 ∷ []) (decimal n)

pub named_is_read : (name : List ℕ) (n : ℕ) → IsNamed (name, n) → named_of (named_text name n) ≡ Some (name, n)
unfolding named_of
named_is_read name n named =
    ap named_by (ap (parts_at 58) (named_apart name n) ∙ parts_first 58 name (decimal n) (name_lacks 58 name refl named.0) ∙ ap (λ parts. name ∷ parts) (parts_none 58 (decimal n) (decimal_lacks 58 n colon_no_digit named.1)))
    ∙ rw (named.0, number_is_read 64 n named.1 named.1)

pub named_lacks_space : (name : List ℕ) (n : ℕ) → IsNamed (name, n) → Lacks 32 (named_text name n)
named_lacks_space name n named =
    subst (Lacks 32) (sym (named_apart name n))
    (both_lack 32 name (58 ∷ decimal n) (name_lacks 32 name refl named.0) (refl, decimal_lacks 32 n space_no_digit named.1))

-- ---- places

disc_lacks : (c disc : ℕ) → IsNoDigit c → (46 == c) ≡ false → disc < 2 ^ 64 → Lacks c (disc_text disc)
disc_lacks c disc none dot small = by (disc == 0)
  where
    by : (b : Bool) → Lacks c (cond b [] (46 ∷ decimal disc))
    by true = tt
    by false = (dot, decimal_lacks c disc none small)

pub place_lacks : (c offset disc : ℕ) → IsNoDigit c → (46 == c) ≡ false → offset < 2 ^ 64 → disc < 2 ^ 64 → Lacks c (location_text offset disc)
place_lacks c offset disc none dot small disc_small =
    both_lack c (decimal offset) (disc_text disc) (decimal_lacks c offset none small) (disc_lacks c disc none dot disc_small)

located_is_read : (offset disc : ℕ) → offset < 2 ^ 16 → disc < 2 ^ 32 → located_by (parts_at 46 (location_text offset disc)) ≡ Some (offset, disc)
located_is_read offset disc low disc_low =
    elim (disc == 0) as (λ b. (disc == 0) ≡ b → located_by (parts_at 46 (decimal offset ++ cond b [] (46 ∷ decimal disc))) ≡ Some (offset, disc)) [
      | true ↦ λ e.
          let none : disc ≡ 0 = grind (arith, nat_tests) in
          ap (λ text. located_by (parts_at 46 text)) (append-nil (decimal offset))
          ∙ ap located_by (parts_none 46 (decimal offset) (decimal_lacks 46 offset dot_no_digit (omega (arith, low))))
          ∙ ap (option_map (λ n. (n, 0))) (number_is_read 16 offset low (omega (arith, low)))
          ∙ ap (λ n. Some (offset, n)) (sym none)
      | false ↦ λ e.
          ap located_by (parts_first 46 (decimal offset) (decimal disc) (decimal_lacks 46 offset dot_no_digit (omega (arith, low)))
          ∙ ap (λ parts. decimal offset ∷ parts) (parts_none 46 (decimal disc) (decimal_lacks 46 disc dot_no_digit (omega (arith, disc_low)))))
          ∙ rw (number_is_read 16 offset low (omega (arith, low)), number_is_read 32 disc disc_low (omega (arith, disc_low)))
    ] refl

pub place_is_read : (offset disc : ℕ) → offset < 2 ^ 16 → disc < 2 ^ 32 → location_of (location_text offset disc ++ 58 ∷ []) ≡ Some (offset, disc)
unfolding location_of
place_is_read offset disc low disc_low =
    ap location_by (parts_first 58 (location_text offset disc) [] (place_lacks 58 offset disc colon_no_digit refl (omega (arith, low)) (omega (arith, disc_low))))
    ∙ located_is_read offset disc low disc_low

-- ---- targets

abbrev pub target_words : List (List ℕ × ℕ) → List (List ℕ)
target_words targets = map (λ target. named_text target.0 target.1) targets

pub targets_are_read : (targets : List (List ℕ × ℕ)) → AllByRecursion IsNamed targets → targets_of (target_words targets) ≡ Some targets
unfolding targets_of
targets_are_read [] all = refl
targets_are_read (target ∷ targets) all = rw (named_is_read target.0 target.1 all.0, targets_are_read targets all.1)

words_split : (word : List ℕ) (targets : List (List ℕ × ℕ)) → Lacks 32 word → AllByRecursion IsNamed targets
    → parts_at 32 (word ++ flat_map target_text targets) ≡ word ∷ target_words targets
words_split word [] lacks all = ap (parts_at 32) (append-nil word) ∙ parts_none 32 word lacks
words_split word (target ∷ targets) lacks all =
    ap (parts_at 32) (behind word (named_text target.0 target.1) (flat_map target_text targets))
    ∙ parts_first 32 word (named_text target.0 target.1 ++ flat_map target_text targets) lacks
    ∙ ap (λ parts. word ∷ parts) (words_split (named_text target.0 target.1) targets (named_lacks_space target.0 target.1 all.0) all.1)
  where
    behind : (xs ys zs : List ℕ) → xs ++ ((32 ∷ ys) ++ zs) ≡ xs ++ 32 ∷ (ys ++ zs)
    behind xs ys zs = refl

-- ---- function lines

function_is_read : (name : List ℕ) (total head : ℕ) → IsNamed (name, total) → head < 2 ^ 64
    → function_of (parts_at 58 (line_text (function_line name total head))) ≡ Some (function_line name total head)
unfolding function_of
function_is_read name total head named small =
    ap function_of
    (ap (parts_at 58) (append_assoc (named_text name total) (58 ∷ []) (decimal head)
    ∙ ap (λ text. text ++ 58 ∷ decimal head) (named_apart name total)
    ∙ append_assoc name (58 ∷ decimal total) (58 ∷ decimal head))
    ∙ parts_first 58 name (decimal total ++ 58 ∷ decimal head) (name_lacks 58 name refl named.0)
    ∙ ap (λ parts. name ∷ parts) (parts_first 58 (decimal total) (decimal head) (decimal_lacks 58 total colon_no_digit named.1)
    ∙ ap (λ parts. decimal total ∷ parts) (parts_none 58 (decimal head) (decimal_lacks 58 head colon_no_digit small))))
    ∙ rw (named.0, number_is_read 64 total named.1 named.1, number_is_read 64 head small small)

-- ---- lines below a function

-- a first byte that is no blank and begins no comment
pub record Starts (text : List ℕ) : Type 0 where
  pub first : ℕ
  pub rest : List ℕ
  pub is : text ≡ first ∷ rest
  pub other : (first == 32) ≡ false
  pub no_tab : (first == 9) ≡ false
  pub no_hash : (first == 35) ≡ false

pub spaces_are : (depth : ℕ) (text : List ℕ) → Starts text → spaces_of (indent depth ++ text) ≡ depth
spaces_are zero text starts = ap spaces_of starts.is ∙ ap (λ b. cond b (1 + prefix_len (λ b. b == 32) starts.rest) 0) starts.other
spaces_are (suc depth) text starts = ap (λ n. 1 + n) (spaces_are depth text starts) ∙ one_more depth
  where
    one_more : (n : ℕ) → 1 + n ≡ suc n
    one_more n = omega arith

dropped : (depth : ℕ) (text : List ℕ) → drop depth (indent depth ++ text) ≡ text
dropped zero text = refl
dropped (suc depth) text = dropped depth text

pub behind_them : (depth : ℕ) (text : List ℕ) → Starts text → behind_spaces (indent depth ++ text) ≡ text
behind_them depth text starts = ap (λ n. drop n (indent depth ++ text)) (spaces_are depth text starts) ∙ dropped depth text

-- where a number stands first
starts_with_number : (n : ℕ) (rest : List ℕ) → n < 2 ^ 64 → Starts (decimal n ++ rest)
starts_with_number n rest small = by (decimal n) (numeral_of n small)
  where
    by : (ds : List ℕ) → IsNumeral 10 ds → Starts (ds ++ rest)
    by [] numeral = absurd (omega (arith, numeral.0))
    by (d ∷ ds) numeral = record {
      first = d;
      rest = ds ++ rest;
      is = refl;
      other = (digits_lack 32 space_no_digit (d ∷ ds) numeral.1).0;
      no_tab = (digits_lack 9 (λ small. absurd (omega (arith, small))) (d ∷ ds) numeral.1).0;
      no_hash = (digits_lack 35 (λ small. absurd (omega (arith, small))) (d ∷ ds) numeral.1).0;
    }

pub place_and_rest : (depth offset disc : ℕ) (rest : List ℕ)
    → indent depth ++ location_text offset disc ++ codes ": " ++ rest ≡ indent depth ++ ((location_text offset disc ++ 58 ∷ []) ++ 32 ∷ rest)
place_and_rest depth offset disc rest =
    append_assoc (indent depth ++ location_text offset disc) (58 ∷ 32 ∷ []) rest
    ∙ append_assoc (indent depth) (location_text offset disc) (58 ∷ 32 ∷ rest)
    ∙ ap (λ text. indent depth ++ text) (sym (append_assoc (location_text offset disc) (58 ∷ []) (32 ∷ rest)))

pub place_starts : (offset disc : ℕ) (rest : List ℕ) → offset < 2 ^ 64 → Starts ((location_text offset disc ++ 58 ∷ []) ++ 32 ∷ rest)
place_starts offset disc rest small =
    subst Starts
    (sym (append_assoc (location_text offset disc) (58 ∷ []) (32 ∷ rest) ∙ append_assoc (decimal offset) (disc_text disc) (58 ∷ 32 ∷ rest)))
    (starts_with_number offset (disc_text disc ++ 58 ∷ 32 ∷ rest) small)

-- what is read of a line with a place
below_is_read : (depth offset disc : ℕ) (rest : List ℕ) → IsPlace depth offset disc
    → line_of (indent depth ++ ((location_text offset disc ++ 58 ∷ []) ++ 32 ∷ rest))
    ≡ line_below depth ((location_text offset disc ++ 58 ∷ []) ∷ parts_at 32 rest)
unfolding line_of
below_is_read depth offset disc rest place =
    let text = (location_text offset disc ++ 58 ∷ []) ++ 32 ∷ rest in
    let starts = place_starts offset disc rest (omega (arith, place.1)) in
    let below : (depth == 0) ≡ false = let some = place.0 in grind (arith, nat_tests) in
    rw (spaces_are depth text starts, dropped depth text, below)
    (ap (line_below depth)
    (parts_first 32 (location_text offset disc ++ 58 ∷ []) rest
    (both_lack 32 (location_text offset disc) (58 ∷ []) (place_lacks 32 offset disc space_no_digit refl (omega (arith, place.1)) (omega (arith, place.2))) (refl, tt))))

body_is_read : (depth offset disc count : ℕ) (targets : List (List ℕ × ℕ)) → CanBeTold (body_line depth offset disc count targets)
    → line_below depth ((location_text offset disc ++ 58 ∷ []) ∷ decimal count ∷ target_words targets) ≡ Some (body_line depth offset disc count targets)
unfolding line_below
body_is_read depth offset disc count targets told =
    rw (place_is_read offset disc told.0.1 told.0.2, number_is_read 64 count told.1 told.1, targets_are_read targets told.2)

not_all_digits : (text : List ℕ) → list_all (λ c. is_digit c 10) text ≡ false → number_of 10 text ≡ None
unfolding number_of
not_all_digits text e = ap (λ b. cond (nat_lt 0 (length text) && b) (Some (digits_value 10 text)) None) e ∙ never (nat_lt 0 (length text)) (digits_value 10 text)
  where
    never : (b : Bool) (v : ℕ) → cond (b && false) (Some v) None ≡ None
    never true v = refl
    never false v = refl

-- a name with a number is no number, for its colon
no_number : (name : List ℕ) (n : ℕ) → number_within 64 (named_text name n) ≡ None
unfolding number_within
no_number name n =
    ap (λ (o : Option ℕ). o >>= within_bits 64)
    (ap (number_of 10) (named_apart name n)
    ∙ not_all_digits (name ++ 58 ∷ decimal n) (list_all-append (λ c. is_digit c 10) name (58 ∷ decimal n) ∙ never (list_all (λ c. is_digit c 10) name)))
  where
    never : (b : Bool) → (b && false) ≡ false
    never true = refl
    never false = refl

call_is_read : (depth offset disc : ℕ) (name : List ℕ) (total : ℕ) → CanBeTold (call_line depth offset disc name total)
    → line_below depth ((location_text offset disc ++ 58 ∷ []) ∷ named_text name total ∷ []) ≡ Some (call_line depth offset disc name total)
unfolding line_below call_of
call_is_read depth offset disc name total told =
    rw (place_is_read offset disc told.0.1 told.0.2, no_number name total, named_is_read name total told.1)

-- ---- lines

pub function_starts : (name : List ℕ) (total head : ℕ) → is_name name ≡ true → Starts (line_text (function_line name total head))
function_starts name total head is =
    let known = name_known name is in
    subst (λ n. Starts (line_text (function_line n total head))) (sym known.is) (record {
      first = known.first;
      rest = known.rest ++ codes ":" ++ decimal total ++ codes ":" ++ decimal head;
      is = refl;
      other = (subst (Lacks 32) known.is (name_lacks 32 name refl is)).0;
      no_tab = (subst (Lacks 9) known.is (name_lacks 9 name refl is)).0;
      no_hash = no_hash_first known.first known.begins;
    })
  where
    no_hash_first : (b : ℕ) → begins_no_name b ≡ false → (b == 35) ≡ false
    no_hash_first b none = by (b == 35) (b == 33) (is_ascii_digit b) none
      where
        by : (x y z : Bool) → (x || y || z) ≡ false → x ≡ false
        by true y z e = absurd (true≢false e)
        by false y z e = refl

pub line_text_is_read : LineTextIsRead
unfolding line_of
line_text_is_read (function_line name total head) told =
    rw (spaces_are 0 (line_text (function_line name total head)) (function_starts name total head told.0.0)) (function_is_read name total head told.0 told.1)
line_text_is_read (body_line depth offset disc count targets) told =
    ap line_of
    (append_assoc (indent depth ++ location_text offset disc ++ codes ": ") (decimal count) (flat_map target_text targets)
    ∙ place_and_rest depth offset disc (decimal count ++ flat_map target_text targets))
    ∙ below_is_read depth offset disc (decimal count ++ flat_map target_text targets) told.0
    ∙ ap (λ words. line_below depth ((location_text offset disc ++ 58 ∷ []) ∷ words)) (words_split (decimal count) targets (decimal_lacks 32 count space_no_digit told.1) told.2)
    ∙ body_is_read depth offset disc count targets told
line_text_is_read (call_line depth offset disc name total) told =
    ap line_of (place_and_rest depth offset disc (named_text name total))
    ∙ below_is_read depth offset disc (named_text name total) told.0
    ∙ ap (λ words. line_below depth ((location_text offset disc ++ 58 ∷ []) ∷ words)) (parts_none 32 (named_text name total) (named_lacks_space name total told.1))
    ∙ call_is_read depth offset disc name total told
