-- What a reader has read, as bytes come, lines end and the text does.
use Rattle.std.proofs.Common.{◌≡◌, ℕ, suc, ◌+◌, ◌-◌, ◌<◌, ◌≤◌, nat_lt, Bool, true, false, List, [], ◌∷◌, ◌++◌, length, take, drop, get_or, cond, min, Option, None, Some, Result, Ok, Err, refl, sym, ap, subst, ◌∙◌, arith}
use Rattle.std.specs.Prelude.{filter}
use Rattle.std.specs.List.{AllByRecursion, flat_map}
use Rattle.std.specs.Option.{option_map}
use Rattle.std.proofs.lemmas.Bool.{eqb-true}
use Rattle.std.proofs.lemmas.Bool.Decides.{nat_tests}
use Rattle.std.proofs.lemmas.Grind.{flat_map-append}
use Rattle.std.proofs.lemmas.List.{append-nil, append_assoc, length-append, length-take, take_all, take_min}
use Rattle.std.proofs.lemmas.List.Folds.{list_any_none, list_any-append}
use Rattle.std.proofs.Math.Seq.{split_at, take-append-add}
use Rattle.memchr.specs.Find.{IsFirstByte, is_byte}
use Rattle.refusal.specs.declared.place.Place.{Place}
use Rattle.refusal.specs.declared.place.Stop.{Stop}
use Rattle.refusal.specs.declared.place.Stop.TheVariants.{Refused, NoMemory}
use Rattle.refusal.specs.Place.{JudgesUnlessNoMemory}
use Rattle.text_model.specs.Fields.{is_filled}
use Rattle.text_model.specs.Laws.{ended, HasNoLineFeed, IsTextOf}
use Rattle.text_model.specs.Lines.{is_line_feed, lines_of, ended_lines_of}
use Rattle.text_model.proofs.LawLemmas.{lines_split}
use Rattle.text_model.proofs.LineLemmas.{none_below, none_in}
use Rattle.sample_model.specs.Judging.{cause_of_line, first_bad_of_lines, lines_before_bad}
use Rattle.sample_model.specs.Limits.{max_line_bytes}
use Rattle.sample_model.specs.declared.load.Load.{Load}
use Rattle.sample_model.specs.Moves.{LoadMap}
use Rattle.sample_model.specs.Samples.{branches_of_lines}
use Rattle.sample_model.proofs.JudgingLemmas.{next_item, ended_lines_of-append, first_bad_of_lines-good, first_bad_of_lines-bad, lines_before_bad-all, lines_before_bad-at, lines_before_bad-some}
use Rattle.branch_stacks.specs.Loads.{met_in, AddsLine}
use Rattle.branch_stacks.specs.Reader.{Reading, HasRead, behind_line, held_of, ended_text, ReadsMore}
use Rattle.branch_counts.specs.Tally.{Tally, total_of, Tells}
use Rattle.branch_stacks.specs.Text.{item_of_counted, TellsBefore}
use Rattle.branch_lines.proofs.LineLemmas.{take-again, cause-too_long}
use Rattle.branch_stacks.proofs.TextLemmas.{Tells-more, met_in-more, total_told}

-- ---- what is held of an open line

-- What is held of an open line is refused as that line is, and is all of it where it is not too long.
cause-held : (before : ℕ) (line : List ℕ) → cause_of_line before (held_of line) ≡ cause_of_line before line
cause-held before line =
    elim (nat_lt max_line_bytes (length line)) as (λ b. nat_lt max_line_bytes (length line) ≡ b → cause_of_line before (held_of line) ≡ cause_of_line before line) [
      | true ↦ λ is.
          let long : max_line_bytes < length line = grind (arith, nat_tests) in
          let held : max_line_bytes < length (held_of line) = omega (arith, length-take (max_line_bytes + 1) line) in
          cause-too_long before (held_of line) held ∙ sym (cause-too_long before line long)
      | false ↦ λ is. let short : length line ≤ max_line_bytes = grind (arith, nat_tests) in ap (cause_of_line before) (take_all (max_line_bytes + 1) line (omega arith))
    ] refl

-- a line that is not refused is not too long
cause-short : (before : ℕ) (line : List ℕ) → cause_of_line before line ≡ None → length line ≤ max_line_bytes
cause-short before line good =
    elim (nat_lt max_line_bytes (length line)) as (λ b. nat_lt max_line_bytes (length line) ≡ b → length line ≤ max_line_bytes) [
      | true ↦ λ is. let long : max_line_bytes < length line = grind (arith, nat_tests) in let bad = sym good ∙ cause-too_long before line long in absurd (cc)
      | false ↦ λ is. grind (arith, nat_tests)
    ] refl

-- ---- the lines of a text that goes on

-- however the parts of a text were found, they are its lines and its open rest
settled : (text rest : List ℕ) (done lines : List (List ℕ)) → IsTextOf text done lines rest → (ended_lines_of text ≡ done) × IsTextOf text (ended_lines_of text) (lines_of text) rest
settled text rest done lines parts =
    let same = lines_split text done lines rest parts in
    (same.0, rw (same.0, same.1) parts)

none_of_both : (xs ys : List ℕ) → HasNoLineFeed xs → HasNoLineFeed ys → HasNoLineFeed (xs ++ ys)
none_of_both xs ys first second = rw (list_any-append is_line_feed xs ys, first) second

-- bytes without a line feed make the open rest longer
text_with_bytes : (text more rest : List ℕ) → IsTextOf text (ended_lines_of text) (lines_of text) rest → HasNoLineFeed more
    → (ended_lines_of (text ++ more) ≡ ended_lines_of text) × IsTextOf (text ++ more) (ended_lines_of (text ++ more)) (lines_of (text ++ more)) (rest ++ more)
text_with_bytes text more rest parts clean =
    settled (text ++ more) (rest ++ more) (ended_lines_of text) (ended_lines_of text ++ filter is_filled ((rest ++ more) ∷ [])) (record {
      clean = parts.clean;
      open_end = none_of_both rest more parts.open_end clean;
      joined = ap (λ (t : List ℕ). t ++ more) parts.joined ∙ append_assoc (flat_map ended (ended_lines_of text)) rest more;
      all = refl;
    })

both_clean : (lines more : List (List ℕ)) → AllByRecursion HasNoLineFeed lines → AllByRecursion HasNoLineFeed more → AllByRecursion HasNoLineFeed (lines ++ more)
both_clean [] more clean later = later
both_clean (line ∷ lines) more clean later = (clean.0, both_clean lines more clean.1 later)

-- and a line feed ends it
text_with_line : (text last rest : List ℕ) → IsTextOf text (ended_lines_of text) (lines_of text) rest → HasNoLineFeed last
    → (ended_lines_of (text ++ (last ++ 10 ∷ [])) ≡ ended_lines_of text ++ (rest ++ last) ∷ [])
    × IsTextOf (text ++ (last ++ 10 ∷ [])) (ended_lines_of (text ++ (last ++ 10 ∷ []))) (lines_of (text ++ (last ++ 10 ∷ []))) []
text_with_line text last rest parts clean =
    let done = ended_lines_of text ++ (rest ++ last) ∷ [] in
    settled (text ++ (last ++ 10 ∷ [])) [] done (done ++ filter is_filled ([] ∷ [])) (record {
      clean = both_clean (ended_lines_of text) ((rest ++ last) ∷ []) parts.clean (none_of_both rest last parts.open_end clean, tt);
      open_end = refl;
      joined = ap (λ (t : List ℕ). t ++ (last ++ 10 ∷ [])) parts.joined
          ∙ append_assoc (flat_map ended (ended_lines_of text)) rest (last ++ 10 ∷ [])
          ∙ ap (λ (t : List ℕ). flat_map ended (ended_lines_of text) ++ t) (sym (append_assoc rest last (10 ∷ [])) ∙ sym (append-nil ((rest ++ last) ++ 10 ∷ [])))
          ∙ sym (flat_map-append ended (ended_lines_of text) ((rest ++ last) ∷ []))
          ∙ sym (append-nil (flat_map ended done));
      all = refl;
    })

-- a text with all its lines ended
pub text_ended : (text rest : List ℕ) → IsTextOf text (ended_lines_of text) (lines_of text) rest
    → (ended_lines_of (ended_text text) ≡ lines_of text) × IsTextOf (ended_text text) (ended_lines_of (ended_text text)) (lines_of (ended_text text)) []
text_ended text rest parts =
    settled (ended_text text) [] (lines_of text) (lines_of text ++ filter is_filled ([] ∷ [])) (record {
      clean = subst (AllByRecursion HasNoLineFeed) (sym parts.all) (both_clean (ended_lines_of text) (filter is_filled (rest ∷ [])) parts.clean (clean_rest rest (is_filled rest) parts.open_end));
      open_end = refl;
      joined = sym (append-nil (ended_text text));
      all = refl;
    })
  where
    clean_rest : (rest : List ℕ) (b : Bool) → HasNoLineFeed rest → AllByRecursion HasNoLineFeed (filter is_filled (rest ∷ []))
    clean_rest rest b clean = elim (is_filled rest) as (λ v. AllByRecursion HasNoLineFeed (cond v (rest ∷ []) [])) [ true ↦ (clean, tt) | false ↦ tt ]

-- ---- what has been read

-- how many bytes there were does not count
pub HasRead-sized : (text : List ℕ) (reader : Reading) (tally : Tally) (n : ℕ) (stop : Option Stop) → HasRead text reader tally → stop ≡ None → HasRead text (record reader { size = n; stop = stop }) tally
HasRead-sized text reader tally n stop has none = record {
  rest = has.rest;
  split = has.split;
  goes_on = none;
  numbered = has.numbered;
  met = has.met;
  held = has.held;
  good = has.good;
  tells = has.tells;
}

-- more bytes of the open line
HasRead-bytes : (text more : List ℕ) (reader new : Reading) (tally : Tally) → HasRead text reader tally → HasNoLineFeed more → new ≡ record reader { held = held_of (reader.held ++ more) } → HasRead (text ++ more) new tally
HasRead-bytes text more reader new tally has clean is =
    let parts = text_with_bytes text more has.rest has.split clean in
    rw is (record {
      rest = has.rest ++ more;
      split = parts.1;
      goes_on = has.goes_on;
      numbered = has.numbered ∙ ap (λ (ls : List (List ℕ)). length ls) (sym parts.0);
      met = has.met ∙ ap (met_in reader.loading) (sym parts.0);
      held = ap (λ (h : List ℕ). held_of (h ++ more)) has.held ∙ take-again (max_line_bytes + 1) has.rest more;
      good = ap (first_bad_of_lines reader.file) parts.0 ∙ has.good;
      tells = subst (λ (ls : List (List ℕ)). Tells reader.loading ls tally) (sym parts.0) has.tells;
    })

-- the open line as the next item, told by what is held of it
pub item_is : (text last : List ℕ) (reader : Reading) (tally : Tally) (has : HasRead text reader tally)
    → item_of_counted reader.file tally (reader.ended_lines + 1) (reader.held ++ last) ≡ next_item reader.file (ended_lines_of text) (has.rest ++ last)
item_is text last reader tally has =
    let place : ℕ → Option _ → Option Place = λ n cause. option_map (λ kind. record { file = reader.file; at = n + 1; kind = kind }) cause in
    let cause : cause_of_line (total_of tally) (held_of has.rest ++ last) ≡ cause_of_line (total_of tally) (has.rest ++ last) =
    sym (cause-held (total_of tally) (held_of has.rest ++ last)) ∙ ap (cause_of_line (total_of tally)) (take-again (max_line_bytes + 1) has.rest last) ∙ cause-held (total_of tally) (has.rest ++ last) in
    ap (λ (n : ℕ). place n (cause_of_line (total_of tally) (reader.held ++ last))) has.numbered
    ∙ ap (λ (h : List ℕ). place (length (ended_lines_of text)) (cause_of_line (total_of tally) (h ++ last))) has.held
    ∙ ap (place (length (ended_lines_of text))) (cause ∙ ap (λ (n : ℕ). cause_of_line n (has.rest ++ last)) (total_told reader.loading (ended_lines_of text) tally has.tells))

item_held : (file : ℕ) (tally : Tally) (number : ℕ) (line : List ℕ) → item_of_counted file tally number (held_of line) ≡ item_of_counted file tally number line
item_held file tally number line = ap (option_map (λ kind. record { file = file; at = number; kind = kind })) (cause-held (total_of tally) line)

no_cause : {A B : Type 0} (f : A → B) (o : Option A) → option_map f o ≡ None → o ≡ None
no_cause f None is = refl
no_cause f (Some x) is = absurd (cc)

-- a line that is good is held whole
pub held_whole : (text last : List ℕ) (reader : Reading) (tally : Tally) (has : HasRead text reader tally) → next_item reader.file (ended_lines_of text) (has.rest ++ last) ≡ None → reader.held ≡ has.rest
held_whole text last reader tally has good =
    let short = cause-short (length (branches_of_lines (ended_lines_of text))) (has.rest ++ last) (no_cause _ _ good) in
    has.held ∙ take_all (max_line_bytes + 1) has.rest (omega (arith, short, length-append has.rest last))

-- the loads of a line that ended
met_behind : (text last : List ℕ) (reader : Reading) (tally : Tally) (has : HasRead text reader tally) → reader.held ≡ has.rest
    → reader.met ++ met_in reader.loading ((reader.held ++ last) ∷ []) ≡ met_in reader.loading (ended_lines_of text ++ (has.rest ++ last) ∷ [])
met_behind text last reader tally has whole =
    ap (λ (ms : List Load). ms ++ met_in reader.loading ((reader.held ++ last) ∷ [])) has.met
    ∙ ap (λ (h : List ℕ). met_in reader.loading (ended_lines_of text) ++ met_in reader.loading ((h ++ last) ∷ [])) whole
    ∙ sym (met_in-more reader.loading (ended_lines_of text) (has.rest ++ last))

-- what is counted with a line that ended
tells_behind : (text last : List ℕ) (reader : Reading) (old tally : Tally) (has : HasRead text reader old) → reader.held ≡ has.rest
    → AddsLine reader.loading reader.met old tally (reader.held ++ last) → Tells reader.loading (ended_lines_of text ++ (has.rest ++ last) ∷ []) tally
tells_behind text last reader old tally has whole adds =
    Tells-more reader.loading (ended_lines_of text) (has.rest ++ last) old tally has.tells
    (subst (λ (ms : List Load). AddsLine reader.loading ms old tally (has.rest ++ last)) has.met
    (subst (λ (h : List ℕ). AddsLine reader.loading reader.met old tally (h ++ last)) whole adds))

-- a line that ended, was good and was counted
pub HasRead-ended : (text last more : List ℕ) (reader new : Reading) (old tally : Tally) (has : HasRead text reader old) → IsTextOf more (ended_lines_of more) (lines_of more) []
    → ended_lines_of more ≡ ended_lines_of text ++ (has.rest ++ last) ∷ []
    → item_of_counted reader.file old (reader.ended_lines + 1) (reader.held ++ last) ≡ None → AddsLine reader.loading reader.met old tally (reader.held ++ last)
    → new ≡ behind_line reader (reader.held ++ last) → HasRead more new tally
HasRead-ended text last more reader new old tally has split ended_is good adds is =
    let line = has.rest ++ last in
    let item : next_item reader.file (ended_lines_of text) line ≡ None = sym (item_is text last reader old has) ∙ good in
    let whole : reader.held ≡ has.rest = held_whole text last reader old has item in
    rw is (record {
      rest = [];
      split = split;
      goes_on = has.goes_on;
      numbered = ap (λ (n : ℕ). n + 1) has.numbered ∙ sym (length-append (ended_lines_of text) (line ∷ [])) ∙ ap (λ (ls : List (List ℕ)). length ls) (sym ended_is);
      met = met_behind text last reader old has whole ∙ ap (met_in reader.loading) (sym ended_is);
      held = refl;
      good = ap (first_bad_of_lines reader.file) ended_is ∙ first_bad_of_lines-good reader.file (ended_lines_of text) line has.good item;
      tells = subst (λ (ls : List (List ℕ)). Tells reader.loading ls tally) (sym ended_is) (tells_behind text last reader old tally has whole adds);
    })

HasRead-line : (text last : List ℕ) (reader new : Reading) (old tally : Tally) → HasRead text reader old → HasNoLineFeed last
    → item_of_counted reader.file old (reader.ended_lines + 1) (reader.held ++ last) ≡ None → AddsLine reader.loading reader.met old tally (reader.held ++ last)
    → new ≡ behind_line reader (reader.held ++ last) → HasRead (text ++ (last ++ 10 ∷ [])) new tally
HasRead-line text last reader new old tally has clean good adds is =
    let parts = text_with_line text last has.rest has.split clean in
    HasRead-ended text last (text ++ (last ++ 10 ∷ [])) reader new old tally has parts.1 parts.0 good adds is

-- what a line comes to that stops the reading, whatever lines come behind it
pub line_stop : (loading : Option LoadMap) (file : ℕ) (done later all : List (List ℕ)) (line : List ℕ) (tally after : Tally) (stop : Stop) (P Q : Unit {0} → Type 0) → first_bad_of_lines file done ≡ None → Tells loading done tally → all ≡ done ++ line ∷ later → after ≡ tally
    → JudgesUnlessNoMemory (next_item file done line) (Err stop) P → JudgesUnlessNoMemory (first_bad_of_lines file all) (Err stop) Q × TellsBefore {T = Unit {0}} loading file all (Err stop) after
line_stop loading file done later all line tally after (Refused place) P Q good tells is same judged = (
  ap (first_bad_of_lines file) is ∙ first_bad_of_lines-bad file done later line place good judged,
  rw (is, same) (subst (λ (ls : List (List ℕ)). Tells loading ls tally) (sym (lines_before_bad-at file done later line place good judged)) tells),
)
line_stop loading file done later all line tally after NoMemory P Q good tells is same judged =
    let some = lines_before_bad-some file done (line ∷ later) (length done) in
    let front : take (length done) (lines_before_bad file done) ≡ done = ap (take (length done)) (lines_before_bad-all file done good) ∙ take_all (length done) done (omega arith) in
    (tt, (some.0, rw (is, same) (subst (λ (ls : List (List ℕ)). Tells loading ls tally) (sym (some.1 ∙ front)) tells)))

-- what is held where bytes are added as far as there is room
pub held_more : (held more new : List ℕ) (n : ℕ) → length held ≤ max_line_bytes + 1 → n ≡ min (length more) (max_line_bytes + 1 - length held) → new ≡ held ++ take n more → new ≡ held_of (held ++ more)
held_more held more new n fits is added =
    let room = max_line_bytes + 1 - length held in
    let least : n ≡ min room (length more) = omega arith in
    let whole : max_line_bytes + 1 ≡ length held + room = omega arith in
    added ∙ ap (λ (k : ℕ). held ++ take k more) least ∙ ap (λ (t : List ℕ). held ++ t) (take_min room more)
    ∙ sym (take-append-add held more room) ∙ ap (λ (k : ℕ). take k (held ++ more)) (sym whole)

-- ---- the lines that end in a part of the text

-- the next line feed
first_feed : (rest : List ℕ) (end : ℕ) → IsFirstByte (is_byte 10) rest (Some end) → HasNoLineFeed (take end rest) × (take end rest ++ 10 ∷ drop (end + 1) rest ≡ rest)
first_feed rest end found =
    let byte : get_or rest end 0 ≡ 10 = eqb-true (get_or rest end 0) 10 found.1 in
    let within : end < length rest = found.0.high in
    let next : suc end ≡ end + 1 = omega arith in (
      list_any_none is_line_feed (take end rest) (none_below is_line_feed rest end (λ k below in_rest feed. found.0.before k (omega arith) below feed)),
      ap (λ (k : ℕ). take end rest ++ 10 ∷ drop k rest) (sym next) ∙ ap (λ (b : ℕ). take end rest ++ b ∷ drop (suc end) rest) (sym byte) ∙ sym (split_at rest end 0 within),
    )

no_feed : (rest : List ℕ) → IsFirstByte (is_byte 10) rest None → HasNoLineFeed rest
no_feed rest none = list_any_none is_line_feed rest (none_in is_line_feed rest (λ k below feed. none k (omega arith) below feed))

-- The lines that end in the front of this part were counted, and this is left of it.
pub record FedSoFar (old : Reading) (before : Tally) (part rest : List ℕ) (now : Reading) (tally : Tally) : Type 0 where
  pub done : List ℕ
  pub joined : done ++ rest ≡ part
  pub file : now.file ≡ old.file
  pub loading : now.loading ≡ old.loading
  pub size : now.size ≡ old.size
  pub fits : now.ended_lines + length now.held + length rest ≤ now.size
  pub reads : (text : List ℕ) → HasRead text old before → HasRead (text ++ done) now tally

pub FedSoFar-none : (old : Reading) (before : Tally) (part : List ℕ) → old.ended_lines + length old.held + length part ≤ old.size → FedSoFar old before part part old before
FedSoFar-none old before part fits = record {
  done = [];
  joined = refl;
  file = refl;
  loading = refl;
  size = refl;
  fits = fits;
  reads = λ text has. subst (λ (t : List ℕ). HasRead t old before) (sym (append-nil text)) has;
}

pub FedSoFar-more : (old : Reading) (before : Tally) (part rest last left : List ℕ) (end : ℕ) (now new : Reading) (tally after : Tally) → FedSoFar old before part rest now tally
    → IsFirstByte (is_byte 10) rest (Some end) → last ≡ take end rest → left ≡ drop (end + 1) rest
    → item_of_counted now.file tally (now.ended_lines + 1) (now.held ++ last) ≡ None
    → AddsLine now.loading now.met tally after (now.held ++ last) × (new ≡ behind_line now (now.held ++ last)) → FedSoFar old before part left new after
FedSoFar-more old before part rest last left end now new tally after so_far found is_last is_left good counts =
    let feed = first_feed rest end found in
    let clean : HasNoLineFeed last = subst HasNoLineFeed (sym is_last) feed.0 in
    let whole : last ++ 10 ∷ left ≡ rest = ap (λ (t : List ℕ). t ++ 10 ∷ left) is_last ∙ ap (λ (t : List ℕ). take end rest ++ 10 ∷ t) is_left ∙ feed.1 in
    let count = ap (λ (t : List ℕ). length t) whole in
    record {
      done = so_far.done ++ (last ++ 10 ∷ []);
      joined = append_assoc so_far.done (last ++ 10 ∷ []) left ∙ ap (λ (t : List ℕ). so_far.done ++ t) (append_assoc last (10 ∷ []) left ∙ whole) ∙ so_far.joined;
      file = ap (λ (r : Reading). r.file) counts.1 ∙ so_far.file;
      loading = ap (λ (r : Reading). r.loading) counts.1 ∙ so_far.loading;
      size = ap (λ (r : Reading). r.size) counts.1 ∙ so_far.size;
      fits = omega (arith, so_far.fits, ap (λ (r : Reading). r.ended_lines) counts.1, ap (λ (r : Reading). length r.held) counts.1, ap (λ (r : Reading). r.size) counts.1, count, length-append last (10 ∷ left));
      reads = λ text has.
          subst (λ (t : List ℕ). HasRead t new after) (append_assoc text so_far.done (last ++ 10 ∷ []))
          (HasRead-line (text ++ so_far.done) last now new tally after (so_far.reads text has) clean good counts.0 counts.1);
    }

pub FedSoFar-stop : (old : Reading) (before : Tally) (part rest last : List ℕ) (end : ℕ) (now new : Reading) (tally after : Tally) (stop : Stop) (P : Unit {0} → Type 0) → FedSoFar old before part rest now tally
    → IsFirstByte (is_byte 10) rest (Some end) → last ≡ take end rest
    → JudgesUnlessNoMemory (item_of_counted now.file tally (now.ended_lines + 1) (now.held ++ last)) (Err stop) P → after ≡ tally → ReadsMore old before part (Err stop) new after
FedSoFar-stop old before part rest last end now new tally after stop P so_far found is_last judged same text has =
    let feed = first_feed rest end found in
    let clean : HasNoLineFeed last = subst HasNoLineFeed (sym is_last) feed.0 in
    let whole : last ++ 10 ∷ drop (end + 1) rest ≡ rest = ap (λ (t : List ℕ). t ++ 10 ∷ drop (end + 1) rest) is_last ∙ feed.1 in
    let here = so_far.reads text has in
    let front = text ++ so_far.done in
    let line = here.rest ++ last in
    let ended_here = text_with_line front last here.rest here.split clean in
    let (later, more) = ended_lines_of-append (front ++ (last ++ 10 ∷ [])) (drop (end + 1) rest) in
    let text_is : (front ++ (last ++ 10 ∷ [])) ++ drop (end + 1) rest ≡ text ++ part =
    append_assoc front (last ++ 10 ∷ []) (drop (end + 1) rest) ∙ ap (λ (t : List ℕ). front ++ t) (append_assoc last (10 ∷ []) (drop (end + 1) rest) ∙ whole)
    ∙ append_assoc text so_far.done rest ∙ ap (λ (t : List ℕ). text ++ t) so_far.joined in
    let all : ended_lines_of (text ++ part) ≡ ended_lines_of front ++ line ∷ later =
    ap ended_lines_of (sym text_is) ∙ more ∙ ap (λ (ls : List (List ℕ)). ls ++ later) ended_here.0 ∙ append_assoc (ended_lines_of front) (line ∷ []) later in
    let item : JudgesUnlessNoMemory (next_item now.file (ended_lines_of front) line) (Err stop) P = subst (λ (o : Option Place). JudgesUnlessNoMemory o (Err stop) P) (item_is front last now tally here) judged in
    let Stops : Option LoadMap → ℕ → Type 0 =
    λ loading n. JudgesUnlessNoMemory {T = Unit {0}} (first_bad_of_lines n (ended_lines_of (text ++ part))) (Err stop) (λ _. HasRead (text ++ part) new after)
    × TellsBefore {T = Unit {0}} loading n (ended_lines_of (text ++ part)) (Err stop) after in
    subst (λ (n : ℕ). Stops old.loading n) so_far.file (subst (λ (l : Option LoadMap). Stops l now.file) so_far.loading
    (line_stop now.loading now.file (ended_lines_of front) later (ended_lines_of (text ++ part)) line tally after stop P (λ _. HasRead (text ++ part) new after) here.good here.tells all same item))

pub FedSoFar-all : (old : Reading) (before : Tally) (part rest : List ℕ) (now new : Reading) (tally : Tally) → FedSoFar old before part rest now tally
    → IsFirstByte (is_byte 10) rest None → new ≡ record now { held = held_of (now.held ++ rest) } → ReadsMore old before part (Ok tt) new tally
FedSoFar-all old before part rest now new tally so_far none is text has =
    let read = HasRead-bytes (text ++ so_far.done) rest now new tally (so_far.reads text has) (no_feed rest none) is in
    let whole : HasRead (text ++ part) new tally = subst (λ (t : List ℕ). HasRead t new tally) (append_assoc text so_far.done rest ∙ ap (λ (t : List ℕ). text ++ t) so_far.joined) read in
    let file : new.file ≡ old.file = ap (λ (r : Reading). r.file) is ∙ so_far.file in
    ((ap (λ (n : ℕ). first_bad_of_lines n (ended_lines_of (text ++ part))) (sym file) ∙ whole.good, whole), tt)

-- a line that is judged by what is held of it
judges_held : (file : ℕ) (tally : Tally) (number : ℕ) (line : List ℕ) (result : Result (Unit {0}) Stop) (P : List ℕ → Type 0)
    → JudgesUnlessNoMemory (item_of_counted file tally number (held_of line)) result (λ _. P (held_of line)) → JudgesUnlessNoMemory (item_of_counted file tally number line) result (λ _. P line)
judges_held file tally number line (Ok done) P judged =
    let item : item_of_counted file tally number line ≡ None = sym (item_held file tally number line) ∙ judged.0 in
    let short = cause-short (total_of tally) line (no_cause _ _ item) in
    let whole : held_of line ≡ line = take_all (max_line_bytes + 1) line (omega arith) in
    (item, subst P whole judged.1)
judges_held file tally number line (Err (Refused place)) P judged = sym (item_held file tally number line) ∙ judged
judges_held file tally number line (Err NoMemory) P judged = tt

pub judges_held_line : (old held new : Reading) (last : List ℕ) (tally after : Tally) (result : Result (Unit {0}) Stop) → held ≡ record old { held = held_of (old.held ++ last) }
    → JudgesUnlessNoMemory (item_of_counted held.file tally (held.ended_lines + 1) held.held) result
    (λ _. AddsLine held.loading held.met tally after held.held × (new ≡ behind_line held held.held))
    → JudgesUnlessNoMemory (item_of_counted old.file tally (old.ended_lines + 1) (old.held ++ last)) result
    (λ _. AddsLine old.loading old.met tally after (old.held ++ last) × (new ≡ behind_line old (old.held ++ last)))
judges_held_line old held new last tally after result is judged =
    judges_held old.file tally (old.ended_lines + 1) (old.held ++ last) result (λ (line : List ℕ). AddsLine old.loading old.met tally after line × (new ≡ behind_line old line))
    (subst (λ (r : Reading). JudgesUnlessNoMemory {T = Unit {0}} (item_of_counted r.file tally (r.ended_lines + 1) r.held) result
    (λ _. AddsLine r.loading r.met tally after r.held × (new ≡ behind_line r r.held))) is judged)
