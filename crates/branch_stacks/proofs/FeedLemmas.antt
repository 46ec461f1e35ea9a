-- What a piece comes to, and the end of a text.
use Rattle.std.proofs.Common.{◌≡◌, ℕ, ◌+◌, ◌<◌, ◌≤◌, nat_lt, Bool, true, false, List, [], ◌∷◌, ◌++◌, length, take, min, Option, None, Some, Result, Ok, Err, refl, sym, ap, subst, ◌∙◌, arith}
use Rattle.std.specs.Prelude.{filter, OnErr}
use Rattle.std.specs.List.{flat_map}
use Rattle.std.specs.Option.{option_or}
use Rattle.std.specs.Result.{result_err}
use Rattle.std.proofs.lemmas.Bool.{lt-ltb}
use Rattle.std.proofs.lemmas.Bool.Decides.{nat_tests}
use Rattle.std.proofs.lemmas.List.{append-nil, length-take, take_all, take_min}
use Rattle.refusal.specs.declared.kind.Kind.TheVariants.{FileTooLarge}
use Rattle.refusal.specs.declared.place.Place.{Place}
use Rattle.refusal.specs.declared.place.Stop.{Stop}
use Rattle.refusal.specs.declared.place.Stop.TheVariants.{Refused, NoMemory}
use Rattle.refusal.specs.Place.{first_bad, fails_at, JudgesUnlessNoMemory}
use Rattle.refusal.proofs.PlaceLemmas.{first_bad-append}
use Rattle.text_model.specs.Fields.{is_filled}
use Rattle.text_model.specs.Laws.{ended}
use Rattle.text_model.specs.Lines.{lines_of, ended_lines_of}
use Rattle.sample_model.specs.Judging.{items_of_lines, first_bad_of_lines, lines_ended_by}
use Rattle.sample_model.specs.Limits.{max_line_bytes, max_text_bytes}
use Rattle.sample_model.specs.Moves.{LoadMap}
use Rattle.sample_model.proofs.JudgingLemmas.{next_item, first_bad_of_piece-within, lines_before_bad-all}
use Rattle.branch_stacks.specs.Loads.{AddsLine}
use Rattle.branch_stacks.specs.Reader.{Reading, HasRead, behind_line, new_reading_by, held_of, room_of, ended_text, Feeds, Finishes, ReadsMore}
use Rattle.branch_counts.specs.Tally.{Tally, Tells}
use Rattle.branch_stacks.specs.Text.{item_of_counted, TellsBefore}
use Rattle.branch_stacks.proofs.ReaderLemmas.{HasRead-ended, HasRead-sized, item_is, line_stop, text_ended}
use Rattle.branch_stacks.proofs.TextLemmas.{Tells-nothing}

-- ---- a piece

-- the part of a piece within the limit
pub part_within : (piece : List ℕ) (n room limit : ℕ) → n ≡ min (length piece) room → room ≡ limit → take n piece ≡ take limit piece
part_within piece n room limit is same =
    let least : n ≡ min limit (length piece) = omega arith in
    ap (λ (k : ℕ). take k piece) least ∙ take_min limit piece

-- a size that was judged
pub judged_large : (size limit other file name : ℕ) (place : Place) → limit ≡ other → file ≡ name → fails_at (nat_lt limit size) (record { file = file; at = max_text_bytes; kind = FileTooLarge }) ≡ Some place
    → fails_at (nat_lt other size) (record { file = name; at = max_text_bytes; kind = FileTooLarge }) ≡ Some place
judged_large size limit other file name place same named large =
    ap (λ (n : ℕ). fails_at (nat_lt other size) (record { file = n; at = max_text_bytes; kind = FileTooLarge })) (sym named)
    ∙ ap (λ (n : ℕ). fails_at (nat_lt n size) (record { file = file; at = max_text_bytes; kind = FileTooLarge })) (sym same) ∙ large

pub judged_small : (size limit other : ℕ) (place : Place) → limit ≡ other → fails_at (nat_lt limit size) place ≡ None → size ≤ other
judged_small size limit other place same small = let is = holds_not (nat_lt limit size) place small in let low : size ≤ limit = grind (arith, nat_tests) in omega arith
  where
    holds_not : (cause : Bool) (place : Place) → fails_at cause place ≡ None → cause ≡ false
    holds_not true place good = absurd cc
    holds_not false place good = refl

-- how many bytes there were does not count
ReadsMore-sized : (mid old new : Reading) (before after : Tally) (part : List ℕ) (result : Result (Unit {0}) Stop) → record mid { size = 0 } ≡ record old { size = 0 }
    → ReadsMore mid before part result new after → ReadsMore (record old { size = 0 }) before part result new after
ReadsMore-sized mid old new before after part result same reads =
    subst (λ (r : Reading). ReadsMore r before part result new after) same
    (λ text has. reads text (HasRead-sized text (record mid { size = 0 }) before mid.size mid.stop has has.goes_on))

-- the lines of the part within the limit stop the reading,
pub Feeds-stop : (mid old new : Reading) (before after : Tally) (piece part : List ℕ) (stop : Stop) → record mid { size = 0 } ≡ record old { size = 0 } → part ≡ take (room_of old) piece
    → ReadsMore mid before part (Err stop) new after → Feeds old before piece (Err stop) new after
Feeds-stop mid old new before after piece part (Refused place) like is reads text has =
    let read = ReadsMore-sized mid old new before after part (Err (Refused place)) like reads text (HasRead-sized text old before 0 old.stop has has.goes_on) in
    let large = fails_at (nat_lt (room_of old) (length piece)) (record { file = old.file; at = max_text_bytes; kind = FileTooLarge }) ∷ [] in
    let lines : ended_lines_of (text ++ part) ≡ lines_ended_by text (room_of old) piece = ap (λ (t : List ℕ). ended_lines_of (text ++ t)) is in
    let bad : first_bad_of_lines old.file (lines_ended_by text (room_of old) piece) ≡ Some place = ap (first_bad_of_lines old.file) (sym lines) ∙ read.0 in (
      first_bad-append (items_of_lines old.file (lines_ended_by text (room_of old) piece)) large ∙ ap (λ (o : Option Place). option_or o (first_bad large)) bad,
      subst (λ (ls : List (List ℕ)). TellsBefore {T = Unit {0}} old.loading old.file ls (Err (Refused place)) after) lines read.1,
    )
Feeds-stop mid old new before after piece part NoMemory like is reads text has =
    let read = ReadsMore-sized mid old new before after part (Err NoMemory) like reads text (HasRead-sized text old before 0 old.stop has has.goes_on) in
    let lines : ended_lines_of (text ++ part) ≡ lines_ended_by text (room_of old) piece = ap (λ (t : List ℕ). ended_lines_of (text ++ t)) is in
    (tt, subst (λ (ls : List (List ℕ)). TellsBefore {T = Unit {0}} old.loading old.file ls (Err NoMemory) after) lines read.1)

-- or its size does,
pub Feeds-large : (mid old new : Reading) (before after : Tally) (piece part : List ℕ) (place : Place) → record mid { size = 0 } ≡ record old { size = 0 } → part ≡ take (room_of old) piece
    → ReadsMore mid before part (Ok tt) new after → new.loading ≡ old.loading
    → fails_at (nat_lt (room_of old) (length piece)) (record { file = old.file; at = max_text_bytes; kind = FileTooLarge }) ≡ Some place → Feeds old before piece (Err (Refused place)) new after
Feeds-large mid old new before after piece part place like is reads same too_large text has =
    let read = ReadsMore-sized mid old new before after part (Ok tt) like reads text (HasRead-sized text old before 0 old.stop has has.goes_on) in
    let large = fails_at (nat_lt (room_of old) (length piece)) (record { file = old.file; at = max_text_bytes; kind = FileTooLarge }) ∷ [] in
    let lines : ended_lines_of (text ++ part) ≡ lines_ended_by text (room_of old) piece = ap (λ (t : List ℕ). ended_lines_of (text ++ t)) is in
    let good : first_bad_of_lines old.file (lines_ended_by text (room_of old) piece) ≡ None = ap (first_bad_of_lines old.file) (sym lines) ∙ read.0.0 in (
      first_bad-append (items_of_lines old.file (lines_ended_by text (room_of old) piece)) large ∙ ap (λ (o : Option Place). option_or o (first_bad large)) good ∙ ap (λ (o : Option Place). first_bad (o ∷ [])) too_large,
      subst (λ (ls : List (List ℕ)). Tells old.loading ls after) (lines ∙ sym (lines_before_bad-all old.file (lines_ended_by text (room_of old) piece) good))
          (subst (λ (l : Option LoadMap). Tells l (ended_lines_of (text ++ part)) after) same read.0.1.tells),
    )

-- or all of it was read.
pub Feeds-whole : (mid old new : Reading) (before after : Tally) (piece part : List ℕ) → record mid { size = 0 } ≡ record old { size = 0 } → part ≡ take (room_of old) piece
    → ReadsMore mid before part (Ok tt) new after → length piece ≤ room_of old → Feeds old before piece (Ok tt) new after
Feeds-whole mid old new before after piece part like is reads within text has =
    let read = ReadsMore-sized mid old new before after part (Ok tt) like reads text (HasRead-sized text old before 0 old.stop has has.goes_on) in
    let whole : part ≡ piece = is ∙ take_all (room_of old) piece within in
    let good : first_bad_of_lines old.file (ended_lines_of (text ++ piece)) ≡ None = ap (λ (t : List ℕ). first_bad_of_lines old.file (ended_lines_of (text ++ t))) (sym whole) ∙ read.0.0 in (
      (first_bad_of_piece-within old.file text (room_of old) piece within ∙ good, subst (λ (t : List ℕ). HasRead (text ++ t) new after) whole read.0.1),
      tt,
    )

-- the answer is kept where it stops the reading
pub Feeds-kept : (old new kept : Reading) (before after : Tally) (piece : List ℕ) (result : Result (Unit {0}) Stop) → kept ≡ record new { stop = result_err result }
    → Feeds old before piece result new after → Feeds old before piece result kept after
Feeds-kept old new kept before after piece (Ok done) is feeds text has =
    let read = feeds text has in ((read.0.0, rw is (HasRead-sized (text ++ piece) new after new.size None read.0.1 refl)), tt)
Feeds-kept old new kept before after piece (Err (Refused place)) is feeds text has = feeds text has
Feeds-kept old new kept before after piece (Err NoMemory) is feeds text has = feeds text has

pub Finishes-kept : (old new kept : Reading) (before after : Tally) (result : Result (Unit {0}) Stop) → kept ≡ record new { stop = result_err result }
    → Finishes old before result new after → Finishes old before result kept after
Finishes-kept old new kept before after (Ok done) is finishes text has =
    let read = finishes text has in ((read.0.0, (read.0.1.0, rw is (HasRead-sized (ended_text text) new after new.size None read.0.1.1 refl))), tt)
Finishes-kept old new kept before after (Err (Refused place)) is finishes text has = finishes text has
Finishes-kept old new kept before after (Err NoMemory) is finishes text has = finishes text has

-- ---- the end of a text

nothing : (rest : List ℕ) → held_of rest ≡ [] → rest ≡ []
nothing rest none = no_bytes rest (omega (arith, length-take (max_line_bytes + 1) rest, ap (λ (t : List ℕ). length t) none))
  where
    no_bytes : (xs : List ℕ) → length xs ≤ 0 → xs ≡ []
    no_bytes [] none = refl
    no_bytes (x ∷ xs) none = absurd (omega (arith, none))

-- no line is open,
pub Finishes-closed : (reader : Reading) (tally : Tally) → reader.held ≡ [] → Finishes reader tally (Ok tt) reader tally
Finishes-closed reader tally none text has =
    let empty : has.rest ≡ [] = nothing has.rest (sym has.held ∙ none) in
    let lines : lines_of text ≡ ended_lines_of text = has.split.all ∙ ap (λ (t : List ℕ). ended_lines_of text ++ filter is_filled (t ∷ [])) empty ∙ append-nil (ended_lines_of text) in
    let same : text ≡ ended_text text =
    has.split.joined ∙ ap (λ (t : List ℕ). flat_map ended (ended_lines_of text) ++ t) empty ∙ append-nil (flat_map ended (ended_lines_of text)) ∙ ap (flat_map ended) (sym lines) in (
      (
        ap (first_bad_of_lines reader.file) lines ∙ has.good,
        (subst (λ (ls : List (List ℕ)). Tells reader.loading ls tally) (sym lines) has.tells, subst (λ (t : List ℕ). HasRead t reader tally) same has),
      ),
      tt,
    )

last_line : (text : List ℕ) (reader : Reading) (tally : Tally) (has : HasRead text reader tally) → 0 < length reader.held → lines_of text ≡ ended_lines_of text ++ has.rest ∷ []
last_line text reader tally has some =
    let filled : is_filled has.rest ≡ true = lt-ltb 0 (length has.rest) (omega (arith, some, ap (λ (t : List ℕ). length t) has.held, length-take (max_line_bytes + 1) has.rest)) in
    has.split.all ∙ ap (λ (ls : List (List ℕ)). ended_lines_of text ++ ls) (kept_one has.rest filled)
  where
    kept_one : (rest : List ℕ) → is_filled rest ≡ true → filter is_filled (rest ∷ []) ≡ rest ∷ []
    kept_one rest is = rw is refl

held_item : (text : List ℕ) (reader : Reading) (tally : Tally) (has : HasRead text reader tally) → item_of_counted reader.file tally (reader.ended_lines + 1) reader.held ≡ next_item reader.file (ended_lines_of text) has.rest
held_item text reader tally has =
    ap (item_of_counted reader.file tally (reader.ended_lines + 1)) (sym (append-nil reader.held)) ∙ item_is text [] reader tally has
    ∙ ap (next_item reader.file (ended_lines_of text)) (append-nil has.rest)

-- or the open line is judged and counted.
pub Finishes-line : (old new : Reading) (before after : Tally) (result : Result (Unit {0}) Stop) → 0 < length old.held
    → JudgesUnlessNoMemory (item_of_counted old.file before (old.ended_lines + 1) old.held) result
    (λ _. AddsLine old.loading old.met before after old.held × (new ≡ behind_line old old.held))
    → OnErr result (after ≡ before) → Finishes old before result new after
Finishes-line old new before after (Ok done) some judged same text has =
    let lines = last_line text old before has some in
    let parts = text_ended text has.rest has.split in
    let held : old.held ≡ old.held ++ [] = sym (append-nil old.held) in
    let ended_is : ended_lines_of (ended_text text) ≡ ended_lines_of text ++ (has.rest ++ []) ∷ [] =
    parts.0 ∙ lines ∙ ap (λ (l : List ℕ). ended_lines_of text ++ l ∷ []) (sym (append-nil has.rest)) in
    let read : HasRead (ended_text text) new after = HasRead-ended text [] (ended_text text) old new before after has parts.1 ended_is
    (ap (item_of_counted old.file before (old.ended_lines + 1)) (append-nil old.held) ∙ judged.0)
    (subst (λ (l : List ℕ). AddsLine old.loading old.met before after l) held judged.1.0) (judged.1.1 ∙ ap (behind_line old) held) in
    let good : first_bad_of_lines old.file (lines_of text) ≡ None =
    ap (first_bad_of_lines old.file) (sym parts.0) ∙ ap (λ (r : Reading). first_bad_of_lines r.file (ended_lines_of (ended_text text))) (sym judged.1.1) ∙ read.good in
    let tells : Tells old.loading (lines_of text) after =
    subst (λ (r : Reading). Tells r.loading (lines_of text) after) judged.1.1 (subst (λ (ls : List (List ℕ)). Tells new.loading ls after) parts.0 read.tells) in
    ((good, (tells, read)), tt)
Finishes-line old new before after (Err stop) some judged same text has =
    let lines = last_line text old before has some in
    let P : Unit {0} → Type 0 = λ _. AddsLine old.loading old.met before after old.held × (new ≡ behind_line old old.held) in
    let item : JudgesUnlessNoMemory {T = Unit {0}} (next_item old.file (ended_lines_of text) has.rest) (Err stop) P =
    subst (λ (o : Option Place). JudgesUnlessNoMemory {T = Unit {0}} o (Err stop) P) (held_item text old before has) judged in
    line_stop old.loading old.file (ended_lines_of text) [] (lines_of text) has.rest before after stop P (λ _. Tells old.loading (lines_of text) after × HasRead (ended_text text) new after) has.good has.tells lines same item

-- ---- before the first piece

pub HasRead-start : (loading : Option LoadMap) (file : ℕ) (tally : Tally) → Tells None [] tally → HasRead [] (new_reading_by loading file) tally
unfolding lines_of ended_lines_of items_of_lines
HasRead-start None file tally tells = record {
  rest = [];
  split = record { clean = tt; open_end = refl; joined = refl; all = refl };
  goes_on = refl;
  numbered = refl;
  met = refl;
  held = refl;
  good = refl;
  tells = tells;
}
HasRead-start (Some loading) file tally tells = record {
  rest = [];
  split = record { clean = tt; open_end = refl; joined = refl; all = refl };
  goes_on = refl;
  numbered = refl;
  met = refl;
  held = refl;
  good = refl;
  tells = Tells-nothing (Some loading) tally tells;
}
