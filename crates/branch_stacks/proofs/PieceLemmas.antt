-- A text that comes in pieces, as one text.
use Rattle.std.proofs.Common.{◌≡◌, ℕ, ◌+◌, ◌-◌, ◌<◌, ◌≤◌, nat_lt, true, false, List, [], ◌∷◌, ◌++◌, length, take, drop, get_or, Option, Some, Result, Ok, Err, refl, sym, ap, subst, ◌∙◌, arith, length-append, None}
use Rattle.std.specs.List.{flat_map}
use Rattle.std.proofs.lemmas.Bool.Decides.{nat_tests}
use Rattle.std.proofs.lemmas.Grind.{flat_map-append}
use Rattle.std.proofs.lemmas.List.{append-nil, append_assoc, take_all, take-append-drop, take-append-le, take_more}
use Rattle.std.proofs.Math.Seq.{take-append-add}
use Rattle.refusal.specs.declared.place.Place.{Place}
use Rattle.refusal.specs.declared.place.Stop.{Stop}
use Rattle.refusal.specs.declared.place.Stop.TheVariants.{Refused, NoMemory}
use Rattle.refusal.specs.Place.{JudgesUnlessNoMemory}
use Rattle.text_model.specs.Lines.{lines_of, ended_lines_of}
use Rattle.sample_model.specs.Judging.{first_bad_of_lines, first_bad_of_piece, first_bad_of_text, judged_lines_of, lines_before_bad, lines_ended_by}
use Rattle.sample_model.specs.Limits.{max_text_bytes}
use Rattle.sample_model.specs.Moves.{LoadMap}
use Rattle.sample_model.proofs.JudgingLemmas.{bad_places_stay, first_bad_of_piece-within, first_bad_of_text-within, judged_lines_of-cut, judged_lines_of-front, judged_lines_of-whole, lines_before_bad-more, lines_before_bad-some}
use Rattle.branch_stacks.specs.Reader.{Reading, HasRead, new_reading_by, room_of, Feeds, Finishes}
use Rattle.branch_counts.specs.Tally.{Tally, Tells}
use Rattle.branch_stacks.specs.Text.{TellsBefore}
use Rattle.branch_stacks.proofs.FeedLemmas.{HasRead-start}

-- This text was read, and the reader goes on.
pub record PiecesSoFar (loading : Option LoadMap) (file : ℕ) (text : List ℕ) (reader : Reading) (tally : Tally) : Type 0 where
  pub file_is : reader.file ≡ file
  pub moved_by : reader.loading ≡ loading
  pub size : reader.size ≡ length text
  pub within : reader.size ≤ max_text_bytes
  pub has : HasRead text reader tally

pub PiecesSoFar-none : (reader : Reading) (tally : Tally) → reader ≡ new_reading_by reader.loading reader.file → Tells None [] tally → PiecesSoFar reader.loading reader.file [] reader tally
PiecesSoFar-none reader tally is tells = record {
  file_is = refl;
  moved_by = refl;
  size = ap (λ (r : Reading). r.size) is;
  within = omega (arith, ap (λ (r : Reading). r.size) is);
  has = subst (λ (r : Reading). HasRead [] r tally) (sym is) (HasRead-start reader.loading reader.file tally tells);
}

pub PiecesSoFar-more : (loading : Option LoadMap) (file : ℕ) (text piece next : List ℕ) (old new : Reading) (tally after : Tally) → PiecesSoFar loading file text old tally → Feeds old tally piece (Ok tt) new after
    → (new.file ≡ old.file) × (new.loading ≡ old.loading) × (new.size ≡ old.size + length piece) × (new.size ≤ max_text_bytes) → next ≡ text ++ piece → PiecesSoFar loading file next new after
PiecesSoFar-more loading file text piece next old new tally after so_far feeds goes_on is = subst (λ (t : List ℕ). PiecesSoFar loading file t new after) (sym is) (record {
  file_is = goes_on.0 ∙ so_far.file_is;
  moved_by = goes_on.1 ∙ so_far.moved_by;
  size = omega (arith, goes_on.2, so_far.size, length-append text piece);
  within = goes_on.3;
  has = (feeds text so_far.has).0.1;
})

-- the lines that have ended by then are judged first in the whole text, and alone where the piece passes the limit
ended_first : (front piece rest : List ℕ) → length front ≤ max_text_bytes
    → (later : List (List ℕ)) × (judged_lines_of (front ++ (piece ++ rest)) ≡ lines_ended_by front (max_text_bytes - length front) piece ++ later)
    × (max_text_bytes - length front < length piece → later ≡ [])
ended_first front piece rest short =
    let room = max_text_bytes - length front in
    let whole = front ++ (piece ++ rest) in
    elim (nat_lt room (length piece)) as (λ b. nat_lt room (length piece) ≡ b → (later : List (List ℕ)) × (judged_lines_of whole ≡ lines_ended_by front room piece ++ later) × (room < length piece → later ≡ [])) [
      | true ↦ λ is.
          let over : room < length piece = grind (arith, nat_tests) in
          let longer : max_text_bytes < length whole = omega (arith, length-append front (piece ++ rest), length-append piece rest) in
          let limit : max_text_bytes ≡ length front + room = omega arith in
          let cut : take max_text_bytes whole ≡ front ++ take room piece =
          ap (λ (k : ℕ). take k whole) limit ∙ take-append-add front (piece ++ rest) room ∙ ap (λ (t : List ℕ). front ++ t) (take-append-le room piece rest (omega arith)) in
          ([], judged_lines_of-cut whole longer ∙ ap ended_lines_of cut ∙ sym (append-nil (lines_ended_by front room piece)), λ _. refl)
      | false ↦ λ is.
          let within : length piece ≤ room = grind (arith, nat_tests) in
          let fits : length (front ++ piece) ≤ max_text_bytes = omega (arith, length-append front piece) in
          let (later, judged) = judged_lines_of-front (front ++ piece) rest fits in
          let ended : ended_lines_of (front ++ piece) ≡ lines_ended_by front room piece = ap (λ (t : List ℕ). ended_lines_of (front ++ t)) (sym (take_all room piece within)) in (
            later,
            subst (λ (ls : List (List ℕ)). judged_lines_of whole ≡ ls ++ later) ended (subst (λ (t : List ℕ). judged_lines_of t ≡ ended_lines_of (front ++ piece) ++ later) (append_assoc front piece rest) judged),
            λ over. absurd (omega (arith, over)),
          )
    ] refl

-- so the lines before a place that is refused by then are those before the whole text's
same_before : (file : ℕ) (front piece rest : List ℕ) (place : Place) → length front ≤ max_text_bytes
    → first_bad_of_piece file front (max_text_bytes - length front) piece ≡ Some place
    → lines_before_bad file (judged_lines_of (front ++ (piece ++ rest))) ≡ lines_before_bad file (lines_ended_by front (max_text_bytes - length front) piece)
same_before file front piece rest place short bad =
    let room = max_text_bytes - length front in
    let lines = lines_ended_by front room piece in
    let (later, judged, none) = ended_first front piece rest short in
    elim (nat_lt room (length piece)) as (λ b. nat_lt room (length piece) ≡ b → lines_before_bad file (judged_lines_of (front ++ (piece ++ rest))) ≡ lines_before_bad file lines) [
      | true ↦ λ is.
          let over : room < length piece = grind (arith, nat_tests) in
          ap (lines_before_bad file) (judged ∙ ap (λ (ls : List (List ℕ)). lines ++ ls) (none over) ∙ append-nil lines)
      | false ↦ λ is.
          let within : length piece ≤ room = grind (arith, nat_tests) in
          let first : first_bad_of_lines file lines ≡ Some place =
          ap (λ (t : List ℕ). first_bad_of_lines file (ended_lines_of (front ++ t))) (take_all room piece within) ∙ sym (first_bad_of_piece-within file front room piece within) ∙ bad in
          ap (lines_before_bad file) judged ∙ lines_before_bad-more file lines later place first
    ] refl

-- What a reading of a text comes to.
abbrev Comes : Option LoadMap → ℕ → List ℕ → Result (Unit {0}) Stop → Tally → Type 0
Comes loading file text result tally =
    JudgesUnlessNoMemory (first_bad_of_text file text) result (λ _. Tells loading (lines_of text) tally)
    × TellsBefore loading file (judged_lines_of text) result tally

-- a piece that is refused refuses the whole text,
stopped_at : (loading : Option LoadMap) (file : ℕ) (front piece rest : List ℕ) (old new : Reading) (tally after : Tally) (stop : Stop) → PiecesSoFar loading file front old tally
    → Feeds old tally piece (Err stop) new after → Comes loading file (front ++ (piece ++ rest)) (Err stop) after
stopped_at loading file front piece rest old new tally after (Refused place) so_far feeds =
    let told = feeds front so_far.has in
    let short : length front ≤ max_text_bytes = omega (arith, so_far.size, so_far.within) in
    let room : room_of old ≡ max_text_bytes - length front = ap (λ (n : ℕ). max_text_bytes - n) so_far.size in
    let bad : first_bad_of_piece file front (max_text_bytes - length front) piece ≡ Some place =
    ap (λ (n : ℕ). first_bad_of_piece file front n piece) (sym room) ∙ ap (λ (n : ℕ). first_bad_of_piece n front (room_of old) piece) (sym so_far.file_is) ∙ told.0 in
    let tells : Tells loading (lines_before_bad file (lines_ended_by front (max_text_bytes - length front) piece)) after =
    subst (λ (l : Option LoadMap). Tells l (lines_before_bad file (lines_ended_by front (max_text_bytes - length front) piece)) after) so_far.moved_by
    (subst (λ (n : ℕ). Tells old.loading (lines_before_bad n (lines_ended_by front (max_text_bytes - length front) piece)) after) so_far.file_is
    (subst (λ (n : ℕ). Tells old.loading (lines_before_bad old.file (lines_ended_by front n piece)) after) room told.1)) in (
      bad_places_stay file front piece rest place short bad,
      subst (λ (ls : List (List ℕ)). Tells loading ls after) (sym (same_before file front piece rest place short bad)) tells,
    )
stopped_at loading file front piece rest old new tally after NoMemory so_far feeds =
    let told = (feeds front so_far.has).1 in
    let short : length front ≤ max_text_bytes = omega (arith, so_far.size, so_far.within) in
    let room : room_of old ≡ max_text_bytes - length front = ap (λ (n : ℕ). max_text_bytes - n) so_far.size in
    let lines = lines_ended_by front (max_text_bytes - length front) piece in
    let tells : Tells loading (take told.0 (lines_before_bad file lines)) after =
    subst (λ (l : Option LoadMap). Tells l (take told.0 (lines_before_bad file lines)) after) so_far.moved_by
    (subst (λ (n : ℕ). Tells old.loading (take told.0 (lines_before_bad n lines)) after) so_far.file_is
    (subst (λ (n : ℕ). Tells old.loading (take told.0 (lines_before_bad old.file (lines_ended_by front n piece))) after) room told.1)) in
    let (later, judged, none) = ended_first front piece rest short in
    let some = lines_before_bad-some file lines later told.0 in
    (tt, (some.0, subst (λ (ls : List (List ℕ)). Tells loading ls after) (sym (ap (λ (ls : List (List ℕ)). take some.0 (lines_before_bad file ls)) judged ∙ some.1)) tells))

-- and the end of the text is that of the pieces joined.
pub pieces_ended : (loading : Option LoadMap) (file : ℕ) (text : List ℕ) (old new : Reading) (tally after : Tally) (result : Result (Unit {0}) Stop) → PiecesSoFar loading file text old tally
    → Finishes old tally result new after → Comes loading file text result after
pieces_ended loading file text old new tally after (Ok done) so_far finishes =
    let within : length text ≤ max_text_bytes = omega (arith, so_far.size, so_far.within) in
    let end = finishes text so_far.has in (
      (
        first_bad_of_text-within file text within ∙ ap (λ (n : ℕ). first_bad_of_lines n (lines_of text)) (sym so_far.file_is) ∙ end.0.0,
        subst (λ (l : Option LoadMap). Tells l (lines_of text) after) so_far.moved_by end.0.1.0,
      ),
      tt,
    )
pieces_ended loading file text old new tally after (Err (Refused place)) so_far finishes =
    let within : length text ≤ max_text_bytes = omega (arith, so_far.size, so_far.within) in
    let end = finishes text so_far.has in (
      first_bad_of_text-within file text within ∙ ap (λ (n : ℕ). first_bad_of_lines n (lines_of text)) (sym so_far.file_is) ∙ end.0,
      subst (λ (ls : List (List ℕ)). Tells loading (lines_before_bad file ls) after) (sym (judged_lines_of-whole text within))
          (subst (λ (n : ℕ). Tells loading (lines_before_bad n (lines_of text)) after) so_far.file_is
          (subst (λ (l : Option LoadMap). Tells l (lines_before_bad old.file (lines_of text)) after) so_far.moved_by end.1)),
    )
pieces_ended loading file text old new tally after (Err NoMemory) so_far finishes =
    let within : length text ≤ max_text_bytes = omega (arith, so_far.size, so_far.within) in
    let end = finishes text so_far.has in (
      tt,
      (
        end.1.0,
        subst (λ (ls : List (List ℕ)). Tells loading (take end.1.0 (lines_before_bad file ls)) after) (sym (judged_lines_of-whole text within))
            (subst (λ (n : ℕ). Tells loading (take end.1.0 (lines_before_bad n (lines_of text))) after) so_far.file_is
            (subst (λ (l : Option LoadMap). Tells l (take end.1.0 (lines_before_bad old.file (lines_of text))) after) so_far.moved_by end.1.1)),
      ),
    )

-- The pieces up to one, that one, and those behind it.
pub joined-next : {X : Type 0} (f : X → List ℕ) (pieces : List X) (i : ℕ) (d : X) → i < length pieces → flat_map f (take (i + 1) pieces) ≡ flat_map f (take i pieces) ++ f (get_or pieces i d)
joined-next f pieces i d l =
    ap (flat_map f) (take_more pieces i d l) ∙ flat_map-append f (take i pieces) (get_or pieces i d ∷ [])
    ∙ ap (λ (t : List ℕ). flat_map f (take i pieces) ++ t) (append-nil (f (get_or pieces i d)))

joined-split : {X : Type 0} (f : X → List ℕ) (pieces : List X) (i : ℕ) (d : X) → i < length pieces
    → flat_map f pieces ≡ flat_map f (take i pieces) ++ (f (get_or pieces i d) ++ flat_map f (drop (i + 1) pieces))
joined-split f pieces i d l =
    let behind = flat_map f (drop (i + 1) pieces) in
    sym (ap (flat_map f) (take-append-drop (i + 1) pieces)) ∙ flat_map-append f (take (i + 1) pieces) (drop (i + 1) pieces)
    ∙ ap (λ (t : List ℕ). t ++ behind) (joined-next f pieces i d l) ∙ append_assoc (flat_map f (take i pieces)) (f (get_or pieces i d)) behind

pub pieces_stopped : {X : Type 0} (f : X → List ℕ) (pieces : List X) (i : ℕ) (d : X) (loading : Option LoadMap) (file : ℕ) (old new : Reading) (tally after : Tally) (stop : Stop) → i < length pieces
    → PiecesSoFar loading file (flat_map f (take i pieces)) old tally → Feeds old tally (f (get_or pieces i d)) (Err stop) new after → Comes loading file (flat_map f pieces) (Err stop) after
pieces_stopped f pieces i d loading file old new tally after stop l so_far feeds =
    subst (λ (t : List ℕ). Comes loading file t (Err stop) after) (sym (joined-split f pieces i d l))
    (stopped_at loading file (flat_map f (take i pieces)) (f (get_or pieces i d)) (flat_map f (drop (i + 1) pieces)) old new tally after stop so_far feeds)
