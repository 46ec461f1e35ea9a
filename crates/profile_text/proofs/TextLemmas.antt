-- A profile text, line by line.
use Rattle.std.proofs.Common.{◌≡◌, ℕ, suc, ◌+◌, ◌≤◌, Bool, true, false, cond, List, [], ◌∷◌, ◌++◌, Some, None, Err, length, refl, sym, ap, subst, arith, ◌∙◌, append_assoc, append-nil, All}
use Rattle.std.specs.Prelude.{◌==◌}
use Rattle.std.specs.List.{enumerate_from, onto_first, slice_split}
use Rattle.std.proofs.lemmas.List.Splits.{slice_split-cons_yes, slice_split-cons_no}
use Rattle.refusal.specs.declared.kind.Kind.{Kind}
use Rattle.refusal.specs.Place.{first_bad, JudgesUnlessNoMemory, stop_on_line}
use Rattle.refusal.specs.declared.place.ItemStop.{ItemStop}
use Rattle.refusal.specs.declared.place.ItemStop.TheVariants as item_stops
use Rattle.refusal.specs.declared.place.Stop.{Stop}
use Rattle.refusal.specs.declared.place.Stop.TheVariants.{Refused, NoMemory}
use Rattle.key_types.specs.declared.key.Key.{Key}
use Rattle.text_model.specs.Lines.{is_line_feed, lines_of, without_empty_end}
use Rattle.text_scan.specs.declared.lines.Line.{Line as TextLine}
use Rattle.profile_laws.proofs.OnceLemmas.{numbers_stand_once}
use Rattle.profile_laws.specs.Once.{StandOnce}
use Rattle.profile_model.specs.Judging.{cause_of_line, with_line, item, items_from, kept_lines, first_bad_of_profile}
use Rattle.profile_model.specs.Profile.{Line}
use Rattle.profile_model.specs.Reading.{is_passed, line_of}
use Rattle.profile_model.specs.Spelled.{Number, numbers_from, numbers_of, numbers_of_line}
use Rattle.profile_model.specs.Standing.{ways_of}
use Rattle.profile_tree.specs.Known.{HasNames}
use Rattle.profile_text.proofs.NamedLemmas.{each_named, items_once, named_each}
use Rattle.profile_text.proofs.OpenLemmas.{kept_on, path_none}
use Rattle.profile_text.proofs.SeenLemmas.{nothing_seen}
use Rattle.profile_text.specs.Draft.{AreGrown, IsNew, IsRead, TakesLine, TellNumbers}
use Rattle.profile_text.specs.Text.{Whole, whole_of, bytes_of, IsLeft, GoesOn, TellText}
use Rattle.profile_text.specs.declared.draft.ProfileDraft.{ProfileDraft}
use Rattle.profile_text.specs.declared.item.Item.{Item}
use Rattle.profile_text.specs.declared.item.Profile.{Profile}

-- ---- one line

kept_passed : (number : ℕ) (bytes : List ℕ) (rest : List (ℕ × List ℕ)) → is_passed bytes ≡ true → kept_lines ((number, bytes) ∷ rest) ≡ kept_lines rest
unfolding kept_lines
kept_passed number bytes rest passed = rw passed

kept_first : (number : ℕ) (bytes : List ℕ) (rest : List (ℕ × List ℕ)) → is_passed bytes ≡ false → kept_lines ((number, bytes) ∷ rest) ≡ (number, bytes) ∷ kept_lines rest
unfolding kept_lines
kept_first number bytes rest kept = rw kept

pub left_passed : (file : ℕ) (whole : Whole) (names : List (List ℕ)) (keys : List Key) (draft : ProfileDraft) (line : TextLine) (rest : List (ℕ × List ℕ))
    → IsLeft file whole names keys draft ((line.number, line.bytes.now) ∷ rest) → is_passed line.bytes.now ≡ true → IsLeft file whole names keys draft rest
left_passed file whole names keys draft line rest left passed = record {
  before = left.before;
  numbers = left.numbers;
  read = left.read;
  judged = left.judged ∙ ap (λ lines. first_bad (items_from file left.before lines)) (kept_passed line.number line.bytes.now rest passed);
  spelled = left.spelled ∙ ap (λ lines. left.numbers ++ numbers_from left.before lines) (kept_passed line.number line.bytes.now rest passed);
  names_kept = left.names_kept;
  keys_kept = left.keys_kept;
  few_names = omega (arith, left.few_names);
  few_keys = omega (arith, left.few_keys);
  few_opened = omega (arith, left.few_opened);
}

judged_first : (file : ℕ) (before : List Line) (number : ℕ) (bytes : List ℕ) (lines : List (ℕ × List ℕ))
    → items_from file before ((number, bytes) ∷ lines) ≡ item file number (cause_of_line before (line_of bytes)) ∷ items_from file (with_line before (line_of bytes)) lines
unfolding items_from
judged_first file before number bytes lines = refl

spelled_first : (before : List Line) (number : ℕ) (bytes : List ℕ) (lines : List (ℕ × List ℕ))
    → numbers_from before ((number, bytes) ∷ lines) ≡ numbers_of_line number before (line_of bytes) ++ numbers_from (with_line before (line_of bytes)) lines
unfolding numbers_from
spelled_first before number bytes lines = refl

judged_line : (file : ℕ) (whole : Whole) (names : List (List ℕ)) (keys : List Key) (draft : ProfileDraft) (line : TextLine) (rest : List (ℕ × List ℕ))
    → (left : IsLeft file whole names keys draft ((line.number, line.bytes.now) ∷ rest)) → is_passed line.bytes.now ≡ false
    → whole.bad ≡ first_bad (item file line.number (cause_of_line left.before (line_of line.bytes.now)) ∷ items_from file (with_line left.before (line_of line.bytes.now)) (kept_lines rest))
judged_line file whole names keys draft line rest left kept =
    left.judged
    ∙ ap (λ lines. first_bad (items_from file left.before lines)) (kept_first line.number line.bytes.now rest kept)
    ∙ ap first_bad (judged_first file left.before line.number line.bytes.now (kept_lines rest))

left_refused : (file : ℕ) (whole : Whole) (names : List (List ℕ)) (keys : List Key) (draft : ProfileDraft) (line : TextLine) (rest : List (ℕ × List ℕ)) (kind : Kind)
    (more : List (List ℕ)) (more_keys : List Key) (after : ProfileDraft)
    → IsLeft file whole names keys draft ((line.number, line.bytes.now) ∷ rest) → is_passed line.bytes.now ≡ false
    → ((before : List Line) (numbers : List Number) → IsRead names keys draft before numbers → cause_of_line before (line_of line.bytes.now) ≡ Some kind)
    → whole.bad ≡ Some (record { file = file; at = line.number; kind = kind })
left_refused file whole names keys draft line rest kind more more_keys after left kept takes =
    judged_line file whole names keys draft line rest left kept
    ∙ ap (λ cause. first_bad (item file line.number cause ∷ items_from file (with_line left.before (line_of line.bytes.now)) (kept_lines rest))) (takes left.before left.numbers left.read)

pub left_stopped : (file : ℕ) (whole : Whole) (names : List (List ℕ)) (keys : List Key) (draft : ProfileDraft) (line : TextLine) (rest : List (ℕ × List ℕ)) (stop : ItemStop)
    (answer : Stop) (more : List (List ℕ)) (more_keys : List Key) (after : ProfileDraft)
    → IsLeft file whole names keys draft ((line.number, line.bytes.now) ∷ rest) → is_passed line.bytes.now ≡ false
    → TakesLine names keys draft line (Err stop) more more_keys after → answer ≡ stop_on_line file line.number stop
    → GoesOn file whole rest (Err answer) more more_keys after
left_stopped file whole names keys draft line rest (item_stops.Refused kind) answer more more_keys after left kept takes is =
    rw is (left_refused file whole names keys draft line rest kind more more_keys after left kept takes)
left_stopped file whole names keys draft line rest item_stops.NoMemory answer more more_keys after left kept takes is = rw is tt

pub left_taken : (file : ℕ) (whole : Whole) (names : List (List ℕ)) (keys : List Key) (draft : ProfileDraft) (line : TextLine) (rest : List (ℕ × List ℕ))
    (more : List (List ℕ)) (more_keys : List Key) (after : ProfileDraft)
    → IsLeft file whole names keys draft ((line.number, line.bytes.now) ∷ rest) → is_passed line.bytes.now ≡ false
    → ((before : List Line) (numbers : List Number) → IsRead names keys draft before numbers
    → (cause_of_line before (line_of line.bytes.now) ≡ None)
    × (IsRead more more_keys after (with_line before (line_of line.bytes.now)) (numbers ++ numbers_of_line line.number before (line_of line.bytes.now))
    × AreGrown (length line.bytes.now) names keys draft.opened more more_keys after.opened))
    → IsLeft file whole more more_keys after rest
left_taken file whole names keys draft line rest more more_keys after left kept takes =
    let is = takes left.before left.numbers left.read in
    let grown = is.1.1 in
    record {
      before = with_line left.before (line_of line.bytes.now);
      numbers = left.numbers ++ numbers_of_line line.number left.before (line_of line.bytes.now);
      read = is.1.0;
      judged =
          judged_line file whole names keys draft line rest left kept
          ∙ ap (λ cause. first_bad (item file line.number cause ∷ items_from file (with_line left.before (line_of line.bytes.now)) (kept_lines rest))) is.0;
      spelled =
          left.spelled
          ∙ ap (λ lines. left.numbers ++ numbers_from left.before lines) (kept_first line.number line.bytes.now rest kept)
          ∙ ap (λ ns. left.numbers ++ ns) (spelled_first left.before line.number line.bytes.now (kept_lines rest))
          ∙ sym (append_assoc left.numbers (numbers_of_line line.number left.before (line_of line.bytes.now)) (numbers_from (with_line left.before (line_of line.bytes.now)) (kept_lines rest)));
      names_kept = kept_on whole.names names more left.names_kept grown.names_kept;
      keys_kept = kept_on whole.keys keys more_keys left.keys_kept grown.keys_kept;
      few_names = omega (arith, left.few_names, grown.few_names);
      few_keys = omega (arith, left.few_keys, grown.few_keys);
      few_opened = omega (arith, left.few_opened, grown.few_opened);
    }

-- ---- all lines

total : List (List ℕ) → ℕ
total [] = 0
total (line ∷ lines) = length line + total lines

numbered_bytes : (from : ℕ) (lines : List (List ℕ)) → bytes_of (enumerate_from from lines) ≡ total lines
unfolding total
numbered_bytes from [] = refl
numbered_bytes from (line ∷ lines) = ap (λ n. length line + n) (numbered_bytes (from + 1) lines)

without_end_bytes : (parts : List (List ℕ)) → total (without_empty_end parts) ≤ total parts
unfolding total
without_end_bytes [] = omega arith
without_end_bytes (last ∷ []) = by_answer (length last == 0)
  where
    by_answer : (b : Bool) → total (cond b [] (last ∷ [])) ≤ length last + 0
    by_answer true = omega arith
    by_answer false = omega arith
without_end_bytes (part ∷ next ∷ parts) = omega (arith, without_end_bytes (next ∷ parts))

onto_bytes : (b : ℕ) (parts : List (List ℕ)) → total (onto_first b parts) ≤ suc (total parts)
unfolding total
onto_bytes b [] = omega arith
onto_bytes b (part ∷ parts) = omega arith

split_bytes : (text : List ℕ) → total (slice_split is_line_feed text) ≤ length text
unfolding total
split_bytes [] = omega arith
split_bytes (b ∷ text) = by_answer (is_line_feed b) refl (split_bytes text)
  where
    by_answer : (v : Bool) → is_line_feed b ≡ v → total (slice_split is_line_feed text) ≤ length text → total (slice_split is_line_feed (b ∷ text)) ≤ suc (length text)
    by_answer true is le = rw (slice_split-cons_yes is_line_feed b text is) (omega (arith, le))
    by_answer false is le = rw (slice_split-cons_no is_line_feed b text is) (omega (arith, le, onto_bytes b (slice_split is_line_feed text)))

text_bytes : (text : List ℕ) → bytes_of (enumerate_from 1 (lines_of text)) ≤ length text
unfolding lines_of
text_bytes text =
    omega (arith, numbered_bytes 1 (without_empty_end (slice_split is_line_feed text)), without_end_bytes (slice_split is_line_feed text), split_bytes text)

nothing_read : (names : List (List ℕ)) (keys : List Key) (draft : ProfileDraft) → IsNew draft → All (HasNames (length names)) keys → IsRead names keys draft [] []
unfolding ways_of
nothing_read names keys draft new named = record {
  ways = [];
  path = rw new.path (path_none names);
  are_ways = record { given = tt; tell = λ more kept. refl };
  seen = rw (new.opened, new.places) (nothing_seen keys);
  stamps = λ n. rw new.called (omega arith);
  called = rw new.called (omega arith);
  named = each_named names keys named;
  told = rw new.items (record { given = tt; tell = λ more more_keys kept keys_kept. refl });
}

pub all_left : (file : ℕ) (text : List ℕ) (names : List (List ℕ)) (keys : List Key) (draft : ProfileDraft) (left : List (ℕ × List ℕ)) → IsNew draft → left ≡ enumerate_from 1 (lines_of text)
    → All (HasNames (length names)) keys → IsLeft file (whole_of file text names keys) names keys draft left
all_left file text names keys draft left new is named =
    subst (IsLeft file (whole_of file text names keys) names keys draft) (sym is)
    (record {
      before = [];
      numbers = [];
      read = nothing_read names keys draft new named;
      judged = refl;
      spelled = refl;
      names_kept = λ n x known. known;
      keys_kept = λ n x known. known;
      few_names = omega (arith, text_bytes text);
      few_keys = omega (arith, text_bytes text);
      few_opened = omega (arith, text_bytes text, ap length new.opened);
    })

pub none_left : (file : ℕ) (text : List ℕ) (names more : List (List ℕ)) (keys more_keys : List Key) (draft : ProfileDraft) (left : List (ℕ × List ℕ)) (items : List Item)
    → IsLeft file (whole_of file text names keys) more more_keys draft left → left ≡ [] → items ≡ draft.items.items
    → (first_bad_of_profile file text ≡ None) × TellText names keys text items more more_keys
unfolding kept_lines items_from numbers_from
none_left file text names more keys more_keys draft left items is none are =
    let end = subst (IsLeft file (whole_of file text names keys) more more_keys draft) none is in
    let spelled : numbers_of text ≡ end.numbers = end.spelled ∙ append-nil end.numbers in
    let told : TellNumbers more more_keys items (numbers_of text) =
    subst (λ (list : List Item). TellNumbers more more_keys list (numbers_of text)) (sym are)
    (subst (TellNumbers more more_keys draft.items.items) (sym spelled) end.read.told) in (
      end.judged,
      record {
        told = told;
        once = items_once more more_keys items
            (subst (StandOnce (λ (number : Number). number.what)) (sym (told.tell more more_keys (λ n x known. known) (λ n x known. known))) (numbers_stand_once file text end.judged));
        named = named_each more more_keys end.read.named;
        names_kept = end.names_kept;
        keys_kept = end.keys_kept;
        few_names = omega (arith, end.few_names);
        few_keys = omega (arith, end.few_keys);
      },
    )

pub stopped : (file : ℕ) (whole : Whole) (rest : List (ℕ × List ℕ)) (stop : Stop) (names : List (List ℕ)) (keys : List Key) (draft : ProfileDraft) (P : Profile → Type 0)
    → GoesOn file whole rest (Err stop) names keys draft → JudgesUnlessNoMemory whole.bad (Err stop) P
stopped file whole rest (Refused place) names keys draft P goes = goes
stopped file whole rest NoMemory names keys draft P goes = tt
