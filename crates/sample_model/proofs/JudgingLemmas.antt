-- The items of lines where lines are added, and the lines of a text where bytes are added.
use Rattle.std.proofs.Common.{◌≡◌, ℕ, ◌+◌, ◌-◌, ◌<◌, ◌≤◌, nat_lt, nat_le, Bool, true, false, List, [], ◌∷◌, ◌++◌, length, map, take, min, Option, None, Some, refl, sym, ap, subst, ◌∙◌, arith}
use Rattle.std.specs.Prelude.{filter, is_none}
use Rattle.std.specs.List.{enumerate_from, flat_map, prefix_len}
use Rattle.std.specs.Option.{option_map, option_or}
use Rattle.std.proofs.lemmas.Bool.{le-leb, lt-leb, lt-ltb, le-ltb}
use Rattle.std.proofs.lemmas.Bool.Decides.{nat_tests}
use Rattle.std.proofs.lemmas.Grind.{flat_map-append}
use Rattle.std.proofs.lemmas.List.{append-nil, append_assoc, length-append, length-map, take_all, take_at, length-take, take-append-le, take-take}
use Rattle.std.proofs.lemmas.List.FromFn.{length-enumerate_from}
use Rattle.std.proofs.lemmas.List.Sums.{prefix_len-le-length}
use Rattle.std.proofs.Math.Seq.{take-append-add}
use Rattle.list_lemmas.proofs.Each.{all_append}
use Rattle.refusal.specs.declared.kind.Kind.TheVariants.{FileTooLarge}
use Rattle.refusal.specs.declared.place.Place.{Place}
use Rattle.refusal.specs.Place.{first_bad, fails_at, size_item}
use Rattle.refusal.proofs.PlaceLemmas.{first_bad-append}
use Rattle.text_model.specs.Fields.{is_filled}
use Rattle.text_model.specs.Laws.{ended, HasNoLineFeed, IsTextOf}
use Rattle.text_model.specs.Lines.{lines_of, ended_lines_of}
use Rattle.text_model.proofs.LawLemmas.{lines_join, lines_split}
use Rattle.sample_model.specs.Judging.{cause_of_line, item_of_line, items_of_lines, judged_lines_of, first_bad_of_lines, first_bad_of_text, lines_before_bad, lines_ended_by, first_bad_of_piece}
use Rattle.sample_model.specs.Laws.{BadPlacesStay}
use Rattle.sample_model.specs.Limits.{max_text_bytes}
use Rattle.sample_model.specs.Samples.{branches_of_lines}

-- a line behind these
abbrev pub next_item : ℕ → List (List ℕ) → List ℕ → Option Place
next_item file lines line =
    option_map (λ kind. record { file = file; at = length lines + 1; kind = kind }) (cause_of_line (length (branches_of_lines lines)) line)

-- lines behind these
abbrev items_behind : ℕ → List (List ℕ) → List (List ℕ) → List (Option Place)
items_behind file lines [] = []
items_behind file lines (line ∷ more) = next_item file lines line ∷ items_behind file (lines ++ line ∷ []) more

items_are : (file : ℕ) (all lines more : List (List ℕ)) → lines ++ more ≡ all → map (item_of_line file all) (enumerate_from (length lines + 1) more) ≡ items_behind file lines more
items_are file all lines [] joined = refl
items_are file all lines (line ∷ more) joined =
    let number : length lines + 1 - 1 ≡ length lines = omega arith in
    let before : take (length lines + 1 - 1) all ≡ lines = ap (λ (n : ℕ). take n all) number ∙ ap (take (length lines)) (sym joined) ∙ take_at lines (line ∷ more) (length lines) refl in
    let here : item_of_line file all (length lines + 1, line) ≡ next_item file lines line =
    ap (λ (ls : List (List ℕ)). option_map (λ kind. record { file = file; at = length lines + 1; kind = kind }) (cause_of_line (length (branches_of_lines ls)) line)) before in
    let count : length (lines ++ line ∷ []) ≡ length lines + 1 = length-append lines (line ∷ []) in
    let later : map (item_of_line file all) (enumerate_from (length lines + 1 + 1) more) ≡ items_behind file (lines ++ line ∷ []) more =
    ap (λ (n : ℕ). map (item_of_line file all) (enumerate_from (n + 1) more)) (sym count) ∙ items_are file all (lines ++ line ∷ []) more (append_assoc lines (line ∷ []) more ∙ joined) in
    ap (λ (item : Option Place). item ∷ map (item_of_line file all) (enumerate_from (length lines + 1 + 1) more)) here ∙ ap (λ (items : List (Option Place)). next_item file lines line ∷ items) later

items_behind-append : (file : ℕ) (lines more last : List (List ℕ)) → items_behind file lines (more ++ last) ≡ items_behind file lines more ++ items_behind file (lines ++ more) last
items_behind-append file lines [] last = ap (λ (ls : List (List ℕ)). items_behind file ls last) (sym (append-nil lines))
items_behind-append file lines (line ∷ more) last =
    ap (λ (items : List (Option Place)). next_item file lines line ∷ items)
    (items_behind-append file (lines ++ line ∷ []) more last
    ∙ ap (λ (ls : List (List ℕ)). items_behind file (lines ++ line ∷ []) more ++ items_behind file ls last) (append_assoc lines (line ∷ []) more))

items_of_lines-behind : (file : ℕ) (lines : List (List ℕ)) → items_of_lines file lines ≡ items_behind file [] lines
unfolding items_of_lines
items_of_lines-behind file lines = items_are file lines [] lines refl

items_of_lines-append : (file : ℕ) (lines more : List (List ℕ)) → items_of_lines file (lines ++ more) ≡ items_of_lines file lines ++ items_behind file lines more
items_of_lines-append file lines more =
    items_of_lines-behind file (lines ++ more) ∙ items_behind-append file [] lines more
    ∙ ap (λ (items : List (Option Place)). items ++ items_behind file lines more) (sym (items_of_lines-behind file lines))

length-items_of_lines : (file : ℕ) (lines : List (List ℕ)) → length (items_of_lines file lines) ≡ length lines
unfolding items_of_lines
length-items_of_lines file lines = length-map (enumerate_from 1 lines) (item_of_line file lines) ∙ length-enumerate_from 1 lines

-- ---- the first bad line

pub first_bad_of_lines-more : (file : ℕ) (lines more : List (List ℕ)) (place : Place) → first_bad_of_lines file lines ≡ Some place → first_bad_of_lines file (lines ++ more) ≡ Some place
first_bad_of_lines-more file lines more place bad =
    ap first_bad (items_of_lines-append file lines more) ∙ first_bad-append (items_of_lines file lines) (items_behind file lines more)
    ∙ ap (λ (o : Option Place). option_or o (first_bad (items_behind file lines more))) bad

first_bad-behind : (file : ℕ) (lines more : List (List ℕ)) → first_bad_of_lines file lines ≡ None → first_bad_of_lines file (lines ++ more) ≡ first_bad (items_behind file lines more)
first_bad-behind file lines more good =
    ap first_bad (items_of_lines-append file lines more) ∙ first_bad-append (items_of_lines file lines) (items_behind file lines more)
    ∙ ap (λ (o : Option Place). option_or o (first_bad (items_behind file lines more))) good

-- of lines without a bad one, and one more: it is good,
pub first_bad_of_lines-good : (file : ℕ) (lines : List (List ℕ)) (line : List ℕ) → first_bad_of_lines file lines ≡ None → next_item file lines line ≡ None → first_bad_of_lines file (lines ++ line ∷ []) ≡ None
first_bad_of_lines-good file lines line good next =
    first_bad-behind file lines (line ∷ []) good ∙ ap (λ (item : Option Place). first_bad (item ∷ [])) next

-- or bad.
pub first_bad_of_lines-bad : (file : ℕ) (lines more : List (List ℕ)) (line : List ℕ) (place : Place) → first_bad_of_lines file lines ≡ None → next_item file lines line ≡ Some place
    → first_bad_of_lines file (lines ++ line ∷ more) ≡ Some place
first_bad_of_lines-bad file lines more line place good next =
    first_bad-behind file lines (line ∷ more) good ∙ ap (λ (item : Option Place). first_bad (item ∷ items_behind file (lines ++ line ∷ []) more)) next

-- ---- the lines before it

all_pass : (items : List (Option Place)) → first_bad items ≡ None → prefix_len is_none items ≡ length items
all_pass [] good = refl
all_pass (None ∷ items) good = omega (arith, all_pass items good)
all_pass (Some place ∷ items) good = absurd (cc)

some_fail : (items : List (Option Place)) (place : Place) → first_bad items ≡ Some place → prefix_len is_none items < length items
some_fail [] place bad = absurd (cc)
some_fail (None ∷ items) place bad = omega (arith, some_fail items place bad)
some_fail (Some other ∷ items) place bad = omega arith

-- as many pass as before, and more only where all passed
passes-append : (items more : List (Option Place)) → (prefix_len is_none items ≤ prefix_len is_none (items ++ more))
    × (prefix_len is_none items < length items → prefix_len is_none (items ++ more) ≡ prefix_len is_none items)
passes-append [] more = (omega arith, λ below. absurd (omega (arith, below)))
passes-append (None ∷ items) more =
    let rest = passes-append items more in
    (omega (arith, rest.0), λ below. omega (arith, rest.1 (omega (arith, below))))
passes-append (Some place ∷ items) more = (omega arith, λ below. refl)

pub lines_before_bad-all : (file : ℕ) (lines : List (List ℕ)) → first_bad_of_lines file lines ≡ None → lines_before_bad file lines ≡ lines
lines_before_bad-all file lines good = take_all (prefix_len is_none (items_of_lines file lines)) lines (omega (arith, all_pass (items_of_lines file lines) good, length-items_of_lines file lines))

-- where one is bad, those behind it change nothing
pub lines_before_bad-more : (file : ℕ) (lines more : List (List ℕ)) (place : Place) → first_bad_of_lines file lines ≡ Some place → lines_before_bad file (lines ++ more) ≡ lines_before_bad file lines
lines_before_bad-more file lines more place bad =
    let below = some_fail (items_of_lines file lines) place bad in
    let same : prefix_len is_none (items_of_lines file (lines ++ more)) ≡ prefix_len is_none (items_of_lines file lines) =
    ap (prefix_len is_none) (items_of_lines-append file lines more) ∙ (passes-append (items_of_lines file lines) (items_behind file lines more)).1 below in
    ap (λ (n : ℕ). take n (lines ++ more)) same ∙ take-append-le (prefix_len is_none (items_of_lines file lines)) lines more (omega (arith, below, length-items_of_lines file lines))

pub lines_before_bad-at : (file : ℕ) (lines more : List (List ℕ)) (line : List ℕ) (place : Place) → first_bad_of_lines file lines ≡ None → next_item file lines line ≡ Some place
    → lines_before_bad file (lines ++ line ∷ more) ≡ lines
lines_before_bad-at file lines more line place good next =
    let passed : prefix_len is_none (items_of_lines file (lines ++ line ∷ more)) ≡ length lines =
    ap (prefix_len is_none) (items_of_lines-append file lines (line ∷ more) ∙ ap (λ (item : Option Place). items_of_lines file lines ++ item ∷ items_behind file (lines ++ line ∷ []) more) next)
    ∙ stopped (items_of_lines file lines) (items_behind file (lines ++ line ∷ []) more) place good ∙ length-items_of_lines file lines in
    ap (λ (n : ℕ). take n (lines ++ line ∷ more)) passed ∙ take_at lines (line ∷ more) (length lines) refl
  where
    stopped : (items more : List (Option Place)) (place : Place) → first_bad items ≡ None → prefix_len is_none (items ++ Some place ∷ more) ≡ length items
    stopped [] more place good = refl
    stopped (None ∷ items) more place good = omega (arith, stopped items more place good)
    stopped (Some other ∷ items) more place good = absurd (cc)

-- some of the lines before the bad one are some of them where more lines follow
pub lines_before_bad-some : (file : ℕ) (lines more : List (List ℕ)) (n : ℕ) → (m : ℕ) × (take m (lines_before_bad file (lines ++ more)) ≡ take n (lines_before_bad file lines))
lines_before_bad-some file lines more n =
    let p = prefix_len is_none (items_of_lines file lines) in
    let q = prefix_len is_none (items_of_lines file (lines ++ more)) in
    let m = min n p in
    let within : p ≤ length lines = omega (arith, prefix_len-le-length is_none (items_of_lines file lines), length-items_of_lines file lines) in
    let later : p ≤ q = subst (λ (items : List (Option Place)). p ≤ prefix_len is_none items) (sym (items_of_lines-append file lines more)) (passes-append (items_of_lines file lines) (items_behind file lines more)).0 in
    let whole : take m (take q (lines ++ more)) ≡ take m lines = take-take m q (lines ++ more) (omega arith) ∙ take-append-le m lines more (omega arith) in
    let front : take n (take p lines) ≡ take m lines = shorter n p lines in
    (m, whole ∙ sym front)
  where
    shorter : (n p : ℕ) (lines : List (List ℕ)) → take n (take p lines) ≡ take (min n p) lines
    shorter n p lines =
        elim (nat_le n p) as (λ b. nat_le n p ≡ b → take n (take p lines) ≡ take (min n p) lines) [
          | true ↦ λ is. let low : n ≤ p = grind (arith, nat_tests) in let least : min n p ≡ n = omega arith in take-take n p lines low ∙ ap (λ (k : ℕ). take k lines) (sym least)
          | false ↦ λ is. let high : p ≤ n = grind (arith, nat_tests) in let least : min n p ≡ p = omega arith in take_all n (take p lines) (omega (arith, length-take p lines)) ∙ ap (λ (k : ℕ). take k lines) (sym least)
        ] refl

-- ---- the lines of a text that goes on

-- the lines of the open rest, with what came behind it, stand behind those that had ended
pub lines-append : (text more rest last : List ℕ) (done lines later all : List (List ℕ)) → IsTextOf text done lines rest → IsTextOf (rest ++ more) later all last
    → IsTextOf (text ++ more) (done ++ later) ((done ++ later) ++ filter is_filled (last ∷ [])) last
lines-append text more rest last done lines later all front behind = record {
  clean = all_append HasNoLineFeed done later front.clean behind.clean;
  open_end = behind.open_end;
  joined = ap (λ (t : List ℕ). t ++ more) front.joined ∙ append_assoc (flat_map ended done) rest more
      ∙ ap (λ (t : List ℕ). flat_map ended done ++ t) behind.joined
      ∙ sym (append_assoc (flat_map ended done) (flat_map ended later) last)
      ∙ ap (λ (t : List ℕ). t ++ last) (sym (flat_map-append ended done later));
  all = refl;
}

-- lines that have ended stay so
pub ended_lines_of-append : (text more : List ℕ) → (later : List (List ℕ)) × (ended_lines_of (text ++ more) ≡ ended_lines_of text ++ later)
ended_lines_of-append text more =
    let (rest, front) = lines_join text in
    let (last, behind) = lines_join (rest ++ more) in
    let later = ended_lines_of (rest ++ more) in
    (later, (lines_split (text ++ more) (ended_lines_of text ++ later) ((ended_lines_of text ++ later) ++ filter is_filled (last ∷ [])) last (lines-append text more rest last (ended_lines_of text) (lines_of text) later (lines_of (rest ++ more)) front behind)).0)

pub lines_of-ended_first : (text : List ℕ) → (later : List (List ℕ)) × (lines_of text ≡ ended_lines_of text ++ later)
lines_of-ended_first text = let (rest, front) = lines_join text in (filter is_filled (rest ∷ []), front.all)

-- ---- the lines that are judged

pub judged_lines_of-whole : (text : List ℕ) → length text ≤ max_text_bytes → judged_lines_of text ≡ lines_of text
unfolding judged_lines_of
judged_lines_of-whole text within = let is : nat_le (length text) max_text_bytes ≡ true = le-leb _ _ within in rw is refl

pub judged_lines_of-cut : (text : List ℕ) → max_text_bytes < length text → judged_lines_of text ≡ ended_lines_of (take max_text_bytes text)
unfolding judged_lines_of
judged_lines_of-cut text over = let is : nat_le (length text) max_text_bytes ≡ false = lt-leb _ _ over in rw is refl

take-front : (n : ℕ) (front rest : List ℕ) → length front ≤ n → take n (front ++ rest) ≡ front ++ take (n - length front) rest
take-front n front rest low =
    let whole : n ≡ length front + (n - length front) = omega arith in
    ap (λ (k : ℕ). take k (front ++ rest)) whole ∙ take-append-add front rest (n - length front)

-- lines that have ended within the limit are judged first, whatever comes behind them
pub judged_lines_of-front : (front rest : List ℕ) → length front ≤ max_text_bytes → (later : List (List ℕ)) × (judged_lines_of (front ++ rest) ≡ ended_lines_of front ++ later)
judged_lines_of-front front rest within =
    elim (nat_le (length (front ++ rest)) max_text_bytes) as (λ b. nat_le (length (front ++ rest)) max_text_bytes ≡ b → (later : List (List ℕ)) × (judged_lines_of (front ++ rest) ≡ ended_lines_of front ++ later)) [
      | true ↦ λ is.
          let whole : length (front ++ rest) ≤ max_text_bytes = grind (arith, nat_tests) in
          let (last, all) = lines_of-ended_first (front ++ rest) in
          let (more, ended) = ended_lines_of-append front rest in
          (more ++ last, judged_lines_of-whole (front ++ rest) whole ∙ all ∙ ap (λ (ls : List (List ℕ)). ls ++ last) ended ∙ append_assoc (ended_lines_of front) more last)
      | false ↦ λ is.
          let over : max_text_bytes < length (front ++ rest) = grind (arith, nat_tests) in
          let (more, ended) = ended_lines_of-append front (take (max_text_bytes - length front) rest) in
          (more, judged_lines_of-cut (front ++ rest) over ∙ ap ended_lines_of (take-front max_text_bytes front rest within) ∙ ended)
    ] refl

-- what is bad in the lines that are judged is bad in the text
pub first_bad_of_judged : (file : ℕ) (text : List ℕ) (place : Place) → first_bad_of_lines file (judged_lines_of text) ≡ Some place → first_bad_of_text file text ≡ Some place
first_bad_of_judged file text place bad =
    let size = size_item file max_text_bytes text ∷ [] in
    first_bad-append (items_of_lines file (judged_lines_of text)) size ∙ ap (λ (o : Option Place). option_or o (first_bad size)) bad

-- a size within its limit is not bad
first_bad-size : (items : List (Option Place)) (limit size : ℕ) (place : Place) → size ≤ limit → first_bad (items ++ fails_at (nat_lt limit size) place ∷ []) ≡ first_bad items
first_bad-size items limit size place within =
    let fits : nat_lt limit size ≡ false = le-ltb _ _ within in
    ap (λ (b : Bool). first_bad (items ++ fails_at b place ∷ [])) fits ∙ first_bad-append items (None ∷ []) ∙ option_or-none (first_bad items)
  where
    option_or-none : (o : Option Place) → option_or o None ≡ o
    option_or-none None = refl
    option_or-none (Some place) = refl

-- of a text within the limit the lines alone are left to judge
pub first_bad_of_text-within : (file : ℕ) (text : List ℕ) → length text ≤ max_text_bytes → first_bad_of_text file text ≡ first_bad_of_lines file (lines_of text)
first_bad_of_text-within file text within =
    first_bad-size (items_of_lines file (judged_lines_of text)) max_text_bytes (length text) (record { file = file; at = max_text_bytes; kind = FileTooLarge }) within
    ∙ ap (first_bad_of_lines file) (judged_lines_of-whole text within)

-- and of a piece within it
pub first_bad_of_piece-within : (file : ℕ) (text : List ℕ) (room : ℕ) (piece : List ℕ) → length piece ≤ room → first_bad_of_piece file text room piece ≡ first_bad_of_lines file (ended_lines_of (text ++ piece))
first_bad_of_piece-within file text room piece within =
    first_bad-size (items_of_lines file (lines_ended_by text room piece)) room (length piece) (record { file = file; at = max_text_bytes; kind = FileTooLarge }) within
    ∙ ap (λ (t : List ℕ). first_bad_of_lines file (ended_lines_of (text ++ t))) (take_all room piece within)

-- a piece that passes the limit is judged as the text that it makes too large
pub first_bad_of_piece-over : (file : ℕ) (text piece rest : List ℕ) → length text ≤ max_text_bytes → max_text_bytes - length text < length piece
    → first_bad_of_text file (text ++ (piece ++ rest)) ≡ first_bad_of_piece file text (max_text_bytes - length text) piece
first_bad_of_piece-over file text piece rest short over =
    let room = max_text_bytes - length text in
    let whole = text ++ (piece ++ rest) in
    let place : Place = record { file = file; at = max_text_bytes; kind = FileTooLarge } in
    let longer : max_text_bytes < length whole = omega (arith, length-append text (piece ++ rest), length-append piece rest) in
    let large : nat_lt max_text_bytes (length whole) ≡ true = lt-ltb _ _ longer in
    let passed : nat_lt room (length piece) ≡ true = lt-ltb _ _ over in
    let front : take max_text_bytes whole ≡ text ++ take room piece =
    take-front max_text_bytes text (piece ++ rest) short ∙ ap (λ (t : List ℕ). text ++ t) (take-append-le room piece rest (omega arith)) in
    ap (λ (ls : List (List ℕ)). first_bad (items_of_lines file ls ++ fails_at (nat_lt max_text_bytes (length whole)) place ∷ [])) (judged_lines_of-cut whole longer ∙ ap ended_lines_of front)
    ∙ ap (λ (b : Bool). first_bad (items_of_lines file (ended_lines_of (text ++ take room piece)) ++ fails_at b place ∷ [])) (large ∙ sym passed)

pub bad_places_stay : BadPlacesStay
bad_places_stay file text piece rest place short bad =
    elim (nat_lt (max_text_bytes - length text) (length piece)) as (λ b. nat_lt (max_text_bytes - length text) (length piece) ≡ b → first_bad_of_text file (text ++ (piece ++ rest)) ≡ Some place) [
      | true ↦ λ is. let over : max_text_bytes - length text < length piece = grind (arith, nat_tests) in first_bad_of_piece-over file text piece rest short over ∙ bad
      | false ↦ λ is. let within : length piece ≤ max_text_bytes - length text = grind (arith, nat_tests) in stays_within within
    ] refl
  where
    stays_within : length piece ≤ max_text_bytes - length text → first_bad_of_text file (text ++ (piece ++ rest)) ≡ Some place
    stays_within within =
        let fits : length (text ++ piece) ≤ max_text_bytes = omega (arith, length-append text piece) in
        let (later, judged) = judged_lines_of-front (text ++ piece) rest fits in
        let ended : first_bad_of_lines file (ended_lines_of (text ++ piece)) ≡ Some place = sym (first_bad_of_piece-within file text (max_text_bytes - length text) piece within) ∙ bad in
        ap (first_bad_of_text file) (sym (append_assoc text piece rest))
        ∙ first_bad_of_judged file ((text ++ piece) ++ rest) place
        (ap (first_bad_of_lines file) judged ∙ first_bad_of_lines-more file (ended_lines_of (text ++ piece)) later place ended)
