-- A branch text that is read piece by piece.
use Rattle.std.proofs.Common.{◌≡◌, ℕ, ◌+◌, ◌-◌, ◌≤◌, List, [], ◌++◌, length, Option, None, Some, Result, Ok, Err, IfOk, IfSome, refl, sym, ap, subst, ◌∙◌, arith}
use Rattle.std.proofs.KnownBytes.{Consumes-nil, Consumes-trans}
use Rattle.std.proofs.lemmas.List.{append-nil, length-append}
use Rattle.std.specs.Io.KnownBytes.{Consumes, IsAtEnd}
use Rattle.std.specs.Result.{IsErrAnd}
use Rattle.refusal.specs.declared.place.Stop.{Stop}
use Rattle.refusal.specs.declared.place.Stop.TheVariants.{Refused, NoMemory}
use Rattle.text_model.specs.Lines.{lines_of}
use Rattle.sample_model.specs.Judging.{first_bad_of_lines, first_bad_of_piece, first_bad_of_text}
use Rattle.sample_model.specs.Limits.{max_text_bytes}
use Rattle.sample_model.specs.Moves.{LoadMap}
use Rattle.sample_model.proofs.JudgingLemmas.{bad_places_stay, first_bad_of_text-within}
use Rattle.branch_stacks.specs.Reader.{Reading, HasRead, new_reading_by, Feeds, Finishes}
use Rattle.branch_counts.specs.Tally.{Tally, Tells}
use Rattle.branch_stacks.proofs.FeedLemmas.{HasRead-start}
use Rattle.program_edge.specs.BranchText.{FeedsText, JudgesText}
use Rattle.program_edge.specs.Halt.{halt_of_stop, judged_in}
use Rattle.program_edge.specs.declared.halt.Halt.{Halt}
use Rattle.program_edge.proofs.ReachedLemmas.{bad-place, handed-on}

-- This was read of what was left, and the reader goes on.
pub record ReadSoFar (loading : Option LoadMap) (k : ℕ) (before left : Option (List ℕ)) (reader : Reading) (tally : Tally) : Type 0 where
  pub read : List ℕ
  pub consumed : Consumes before left read
  pub file_is : reader.file ≡ k
  pub moved_by : reader.loading ≡ loading
  pub size : reader.size ≡ length read
  pub within : reader.size ≤ max_text_bytes
  pub has : HasRead read reader tally

-- A reader that is new by something that moves addresses is new by its own.
pub new_by : (reader : Reading) (k : ℕ) → (loading : Option LoadMap) × (reader ≡ new_reading_by loading k)
    → reader ≡ new_reading_by reader.loading k
new_by reader k (loading, is) = is ∙ ap (λ l. new_reading_by l k) (sym (ap (λ (r : Reading). r.loading) is))

pub ReadSoFar-none : (loading : Option LoadMap) (k : ℕ) (left : Option (List ℕ)) (reader : Reading) (tally : Tally) → reader ≡ new_reading_by loading k → Tells None [] tally → ReadSoFar loading k left left reader tally
ReadSoFar-none loading k left reader tally is tells = subst (λ (r : Reading). ReadSoFar loading k left left r tally) (sym is) (record {
  read = [];
  consumed = Consumes-nil left;
  file_is = refl;
  moved_by = refl;
  size = refl;
  within = omega arith;
  has = HasRead-start loading k tally tells;
})

ReadSoFar-more : (loading : Option LoadMap) (k : ℕ) (before left next : Option (List ℕ)) (piece : List ℕ) (old new : Reading) (tally after : Tally) → ReadSoFar loading k before left old tally → Consumes left next piece
    → Feeds old tally piece (Ok tt) new after → (new.file ≡ old.file) × (new.loading ≡ old.loading) × (new.size ≡ old.size + length piece) × (new.size ≤ max_text_bytes) → ReadSoFar loading k before next new after
ReadSoFar-more loading k before left next piece old new tally after so_far consumed feeds goes_on = record {
  read = so_far.read ++ piece;
  consumed = Consumes-trans before left next so_far.read piece so_far.consumed consumed;
  file_is = goes_on.0 ∙ so_far.file_is;
  moved_by = goes_on.1 ∙ so_far.moved_by;
  size = omega (arith, goes_on.2, so_far.size, length-append so_far.read piece);
  within = goes_on.3;
  has = (feeds so_far.read so_far.has).0.1;
}

ReadSoFar-stop : (loading : Option LoadMap) (k : ℕ) (before left next : Option (List ℕ)) (piece : List ℕ) (old new : Reading) (tally after : Tally) (stop : Stop) → ReadSoFar loading k before left old tally → Consumes left next piece
    → Feeds old tally piece (Err stop) new after → IfSome before (λ text. FeedsText loading k text (Err (halt_of_stop k stop)) new after)
ReadSoFar-stop loading k None left next piece old new tally after stop so_far consumed feeds = tt
ReadSoFar-stop loading k (Some text) None next piece old new tally after stop so_far consumed feeds = absurd so_far.consumed
ReadSoFar-stop loading k (Some text) (Some left) None piece old new tally after stop so_far consumed feeds = absurd consumed
ReadSoFar-stop loading k (Some text) (Some left) (Some rest) piece old new tally after NoMemory so_far consumed feeds = tt
ReadSoFar-stop loading k (Some text) (Some left) (Some rest) piece old new tally after (Refused place) so_far consumed feeds =
    let bad = (feeds so_far.read so_far.has).0 in
    let room : max_text_bytes - old.size ≡ max_text_bytes - length so_far.read = ap (λ (n : ℕ). max_text_bytes - n) so_far.size in
    let here : first_bad_of_piece k so_far.read (max_text_bytes - length so_far.read) piece ≡ Some place =
    ap (λ (n : ℕ). first_bad_of_piece k so_far.read n piece) (sym room) ∙ ap (λ (n : ℕ). first_bad_of_piece n so_far.read (max_text_bytes - old.size) piece) (sym so_far.file_is) ∙ bad in
    let whole : text ≡ so_far.read ++ (piece ++ rest) = so_far.consumed ∙ ap (λ (t : List ℕ). so_far.read ++ t) consumed in
    bad-place k (first_bad_of_text k text) place (ap (first_bad_of_text k) whole ∙ bad_places_stay k so_far.read piece rest place (omega (arith, so_far.size, so_far.within)) here)

pub ReadSoFar-fed : (loading : Option LoadMap) (k : ℕ) (before left next : Option (List ℕ)) (piece : List ℕ) (old new : Reading) (tally after : Tally) (r : Result (Unit {0}) Stop) → ReadSoFar loading k before left old tally → Consumes left next piece
    → Feeds old tally piece r new after → IfOk r (λ done. (new.file ≡ old.file) × (new.loading ≡ old.loading) × (new.size ≡ old.size + length piece) × (new.size ≤ max_text_bytes)) → judged_in k r ≡ Ok tt → ReadSoFar loading k before next new after
ReadSoFar-fed loading k before left next piece old new tally after (Ok tt) so_far consumed feeds goes_on is = ReadSoFar-more loading k before left next piece old new tally after so_far consumed feeds goes_on
ReadSoFar-fed loading k before left next piece old new tally after (Err stop) so_far consumed feeds goes_on is = absurd cc

pub ReadSoFar-ends : (loading : Option LoadMap) (k : ℕ) (before left next : Option (List ℕ)) (piece : List ℕ) (old new : Reading) (tally after : Tally) (r : Result (Unit {0}) Stop) (h : Halt) (end : Result (Unit {0}) Halt) → ReadSoFar loading k before left old tally → Consumes left next piece
    → Feeds old tally piece r new after → judged_in k r ≡ Err h → IsErrAnd end (λ x. x ≡ h) → IfSome before (λ text. FeedsText loading k text end new after)
ReadSoFar-ends loading k before left next piece old new tally after (Ok done) h end so_far consumed feeds is ends = absurd cc
ReadSoFar-ends loading k before left next piece old new tally after (Err stop) h end so_far consumed feeds is ends =
    let same : halt_of_stop k stop ≡ h = cc in
    handed-on end h (λ r. IfSome before (λ text. FeedsText loading k text r new after)) ends
    (subst (λ x. IfSome before (λ text. FeedsText loading k text (Err x) new after)) same (ReadSoFar-stop loading k before left next piece old new tally after stop so_far consumed feeds))

pub ReadSoFar-all : (loading : Option LoadMap) (k : ℕ) (before left next : Option (List ℕ)) (piece : List ℕ) (reader : Reading) (tally : Tally) → ReadSoFar loading k before left reader tally → Consumes left next piece → piece ≡ [] → IsAtEnd next
    → IfSome before (λ text. FeedsText loading k text (Ok tt) reader tally)
ReadSoFar-all loading k None left next piece reader tally so_far consumed nothing end = tt
ReadSoFar-all loading k (Some text) None next piece reader tally so_far consumed nothing end = absurd so_far.consumed
ReadSoFar-all loading k (Some text) (Some left) None piece reader tally so_far consumed nothing end = absurd consumed
ReadSoFar-all loading k (Some text) (Some left) (Some rest) piece reader tally so_far consumed nothing end =
    let none : left ≡ [] = consumed ∙ ap (λ (t : List ℕ). t ++ rest) nothing ∙ end in
    let whole : text ≡ so_far.read = so_far.consumed ∙ ap (λ (t : List ℕ). so_far.read ++ t) none ∙ append-nil so_far.read in
    (subst (λ (t : List ℕ). HasRead t reader tally) (sym whole) so_far.has, so_far.file_is, so_far.moved_by, omega (arith, so_far.size, so_far.within, ap (λ (t : List ℕ). length t) whole))

-- what was fed stops the reading of a text,
pub JudgesText-stop : (loading : Option LoadMap) (k : ℕ) (left : Option (List ℕ)) (stopped : Halt) (reader : Reading) (tally : Tally) → IfSome left (λ text. FeedsText loading k text (Err stopped) reader tally) → IfSome left (λ text. JudgesText loading k text (Err stopped) tally)
JudgesText-stop loading k None stopped reader tally fed = tt
JudgesText-stop loading k (Some text) stopped reader tally fed = fed

-- or its end does,
JudgesText-end : (loading : Option LoadMap) (k : ℕ) (left : Option (List ℕ)) (old new : Reading) (before after : Tally) (stop : Stop) → IfSome left (λ text. FeedsText loading k text (Ok tt) old before) → Finishes old before (Err stop) new after
    → IfSome left (λ text. JudgesText loading k text (Err (halt_of_stop k stop)) after)
JudgesText-end loading k None old new before after stop fed finishes = tt
JudgesText-end loading k (Some text) old new before after NoMemory fed finishes = tt
JudgesText-end loading k (Some text) old new before after (Refused place) fed finishes =
    bad-place k (first_bad_of_text k text) place (first_bad_of_text-within k text fed.3 ∙ ap (λ (n : ℕ). first_bad_of_lines n (lines_of text)) (sym fed.1) ∙ (finishes text fed.0).0)

-- or all of it is good.
JudgesText-all : (loading : Option LoadMap) (k : ℕ) (left : Option (List ℕ)) (old new : Reading) (before after : Tally) → IfSome left (λ text. FeedsText loading k text (Ok tt) old before) → Finishes old before (Ok tt) new after
    → IfSome left (λ text. JudgesText loading k text (Ok tt) after)
JudgesText-all loading k None old new before after fed finishes = tt
JudgesText-all loading k (Some text) old new before after fed finishes =
    let end = (finishes text fed.0).0 in
    (first_bad_of_text-within k text fed.3 ∙ ap (λ (n : ℕ). first_bad_of_lines n (lines_of text)) (sym fed.1) ∙ end.0, subst (λ (l : Option LoadMap). Tells l (lines_of text) after) fed.2 end.1.0)

pub JudgesText-passes : (loading : Option LoadMap) (k : ℕ) (left : Option (List ℕ)) (old new : Reading) (before after : Tally) (r : Result (Unit {0}) Stop) → IfSome left (λ text. FeedsText loading k text (Ok tt) old before) → Finishes old before r new after
    → judged_in k r ≡ Ok tt → IfSome left (λ text. JudgesText loading k text (Ok tt) after)
JudgesText-passes loading k left old new before after (Ok tt) fed finishes is = JudgesText-all loading k left old new before after fed finishes
JudgesText-passes loading k left old new before after (Err stop) fed finishes is = absurd cc

pub JudgesText-ends : (loading : Option LoadMap) (k : ℕ) (left : Option (List ℕ)) (old new : Reading) (before after : Tally) (r : Result (Unit {0}) Stop) (h : Halt) (end : Result (Unit {0}) Halt) → IfSome left (λ text. FeedsText loading k text (Ok tt) old before) → Finishes old before r new after
    → judged_in k r ≡ Err h → IsErrAnd end (λ x. x ≡ h) → IfSome left (λ text. JudgesText loading k text end after)
JudgesText-ends loading k left old new before after (Ok done) h end fed finishes is ends = absurd cc
JudgesText-ends loading k left old new before after (Err stop) h end fed finishes is ends =
    let same : halt_of_stop k stop ≡ h = cc in
    handed-on end h (λ r. IfSome left (λ text. JudgesText loading k text r after)) ends
    (subst (λ x. IfSome left (λ text. JudgesText loading k text (Err x) after)) same (JudgesText-end loading k left old new before after stop fed finishes))
