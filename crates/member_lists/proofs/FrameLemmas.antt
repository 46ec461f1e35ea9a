-- Collecting with frames gives the members that the depths of the entries say.
use Rattle.std.proofs.Common.{◌≡◌, ℕ, zero, suc, ◌+◌, ◌≤◌, Bool, true, false, cond, List, [], ◌∷◌, ◌++◌, length, take, Option, None, Some, Result, Ok, Err, refl, sym, ap, subst, ◌∙◌, inl, inr, arith}
use Rattle.std.specs.Prelude.{◌&&◌, not, nat_lt, filter, find}
use Rattle.std.specs.List.{before_first, flat_map, list_all, prefix_len}
use Rattle.std.specs.Option.{option_and_then}
use Rattle.std.specs.Result.{result_unwrap_or}
use Rattle.std.proofs.lemmas.Bool.{cases_lt, lt-ltb, le-ltb}
use Rattle.std.proofs.lemmas.List.{length-append}
use Rattle.std.proofs.lemmas.List.Sums.{sum_by-cons}
use Rattle.refusal.specs.declared.place.Place.{Place}
use Rattle.unit_model.specs.Entries.{Entry}
use Rattle.unit_model.specs.Units as unit_model
use Rattle.tree_model.specs.Bases.{base_address}
use Rattle.tree_model.specs.Pieces.{InUnit, and_then, live_ranges, pieces, spelled_ranges, within_limit}
use Rattle.tree_model.specs.Origin.{origin}
use Rattle.tree_model.specs.Depths.{Standing, calls_on, function_count, function_number, gives_function, has_pieces, inlined_into, pieces_of, way_up}
use Rattle.tree_model.specs.Members.{Told, call_told, function_told, is_call, is_function}
use Rattle.tree_model.specs.Tree.{Source, Tree, entries_of_unit, in_unit, members, not_too_deep, with_call, with_member}
use Rattle.tree_model.specs.Tree.{call_with as tree_call_with, function_with as tree_function_with, next_call as next_tree_call, next_entries as next_tree_entries, next_entry as next_tree_entry, next_function as next_tree_function, next_unit as next_tree_unit, next_units as next_tree_units}
use Rattle.member_lists.specs.declared.frame.EntryFrame.{EntryFrame}
use Rattle.member_lists.specs.Frames.{SoFar, all_members, behind_other, behind_unit, first_frame, frame_above, frame_of_function, frames_above, frames_to, left_out, nothing, one_deeper, outside}
use Rattle.member_lists.specs.Collecting.{call_with, function_with, next_call, next_entries, next_entry, next_function, next_unit, next_units}
use Rattle.member_lists.specs.Laws.{CollectedAreMembers}

-- ---- what a way up says

-- The frame that a way up says.
abbrev frame_on : List ℕ → InUnit → ℕ → List Standing → EntryFrame
frame_on file of before way = record { calls = length (calls_on way); function = inlined_into file of before way }

-- The frame of an entry right below a frame.
abbrev frame_with : List ℕ → InUnit → ℕ → Standing → EntryFrame → EntryFrame
frame_with file of before on above =
    cond (is_function on.entry) (record { calls = 0; function = function_number file of before on })
    (cond (is_call on.entry) (record { calls = above.calls + 1; function = cond (has_pieces file of on.entry) above.function None }) above)

abbrev on_function : Standing → Bool
on_function on = is_function on.entry

abbrev on_call : Standing → Bool
on_call on = is_call on.entry

before_first-cons : (on : Standing) (way : List Standing) → before_first on_function (on ∷ way) ≡ cond (is_function on.entry) [] (on ∷ before_first on_function way)
before_first-cons on way = go (is_function on.entry)
  where
    rest : ℕ
    rest = prefix_len (λ other. not (on_function other)) way

    one_more : (n : ℕ) → take (1 + n) (on ∷ way) ≡ on ∷ take n way
    one_more n = let e : suc n ≡ 1 + n = omega arith in subst (λ k. take k (on ∷ way) ≡ on ∷ take n way) e refl

    go : (b : Bool) → take (cond (not b) (1 + rest) 0) (on ∷ way) ≡ cond b [] (on ∷ take rest way)
    go true = refl
    go false = one_more rest

calls_on-cons : (on : Standing) (way : List Standing) → calls_on (on ∷ way) ≡ cond (is_function on.entry) [] (cond (is_call on.entry) (on ∷ calls_on way) (calls_on way))
calls_on-cons on way = ap (filter on_call) (before_first-cons on way) ∙ go (is_function on.entry)
  where
    go : (b : Bool) → filter on_call (cond b [] (on ∷ before_first on_function way)) ≡ cond b [] (cond (is_call on.entry) (on ∷ calls_on way) (calls_on way))
    go true = refl
    go false = refl

-- The frame by the calls on a way and the nearest function.
abbrev frame_by : List ℕ → InUnit → ℕ → List Standing → Option Standing → EntryFrame
frame_by file of before calls nearest = record {
  calls = length calls;
  function = cond (list_all (λ on. has_pieces file of on.entry) calls) (option_and_then (function_number file of before) nearest) None;
}

frame_on-cons : (file : List ℕ) (of : InUnit) (before : ℕ) (on : Standing) (way : List Standing)
    → frame_with file of before on (frame_on file of before way) ≡ frame_on file of before (on ∷ way)
frame_on-cons file of before on way =
    go (is_function on.entry) (is_call on.entry) ∙ ap (λ calls. frame_by file of before calls (find on_function (on ∷ way))) (sym (calls_on-cons on way))
  where
    go : (function call : Bool)
        → cond function (record { calls = 0; function = function_number file of before on })
        (cond call (record { calls = length (calls_on way) + 1; function = cond (has_pieces file of on.entry) (inlined_into file of before way) None }) (frame_on file of before way))
        ≡ frame_by file of before (cond function [] (cond call (on ∷ calls_on way) (calls_on way))) (cond function (Some on) (find on_function way))
    go true call = refl
    go false true = below (has_pieces file of on.entry) (list_all (λ other. has_pieces file of other.entry) (calls_on way)) (option_and_then (function_number file of before) (find on_function way))
      where
        below : (here there : Bool) (nearest : Option ℕ)
            → ◌≡◌ {A = EntryFrame} (record { calls = length (calls_on way) + 1; function = cond here (cond there nearest None) None })
            (record { calls = length (on ∷ calls_on way); function = cond (here && there) nearest None })
        below true there nearest = let long : length (calls_on way) + 1 ≡ length (on ∷ calls_on way) = omega arith in ap (λ n. record { calls = n; function = cond there nearest None }) long
        below false there nearest = let long : length (calls_on way) + 1 ≡ length (on ∷ calls_on way) = omega arith in ap (λ n. record { calls = n; function = None }) long
    go false false = refl

-- ---- frames

-- The frames say of each depth what the ways up say, the last entry first.
abbrev Framed : List ℕ → InUnit → ℕ → List Entry → List (ℕ × EntryFrame) → Type 0
Framed file of before earlier frames = (depth : ℕ) → frame_above depth frames ≡ frame_on file of before (way_up depth earlier)

above-less : (few many : ℕ) (frames : List (ℕ × EntryFrame)) → few ≤ many → frames_above few (frames_above many frames) ≡ frames_above few frames
above-less few many [] less = refl
above-less few many (frame ∷ frames) less = elim (cases_lt frame.0 many) [
  | inl here ↦ ap (λ b. frames_above few (cond b (frame ∷ frames) (frames_above many frames))) (lt-ltb frame.0 many here)
  | inr past ↦
      ap (λ b. frames_above few (cond b (frame ∷ frames) (frames_above many frames))) (le-ltb frame.0 many (omega (arith, past)))
      ∙ above-less few many frames less
      ∙ sym (ap (λ b. cond b (frame ∷ frames) (frames_above few frames)) (le-ltb frame.0 few (omega (arith, past, less))))
]

-- one step of a way up
way_up-by : (depth : ℕ) (entry : Entry) (earlier : List Entry) (less : Bool) → nat_lt entry.depth depth ≡ less
    → way_up depth (entry ∷ earlier) ≡ cond less (record { entry = entry; earlier = earlier } ∷ []) [] ++ way_up (cond less entry.depth depth) earlier
way_up-by depth entry earlier less is =
    ap (λ b. cond b (record { entry = entry; earlier = earlier } ∷ []) [] ++ way_up (cond b entry.depth depth) earlier) is

framed-more : (file : List ℕ) (of : InUnit) (before : ℕ) (entry : Entry) (earlier : List Entry) (frames : List (ℕ × EntryFrame)) (frame : EntryFrame)
    → Framed file of before earlier frames
    → frame ≡ frame_with file of before (record { entry = entry; earlier = earlier }) (frame_above entry.depth frames)
    → Framed file of before (entry ∷ earlier) (frames_to entry.depth frame frames)
framed-more file of before entry earlier frames frame framed is depth = elim (cases_lt entry.depth depth) [
  | inl less ↦
      first_above true (lt-ltb entry.depth depth less) ∙ is
      ∙ ap (frame_with file of before on) (framed entry.depth) ∙ frame_on-cons file of before on (way_up entry.depth earlier)
      ∙ ap (frame_on file of before) (sym (way_up-by depth entry earlier true (lt-ltb entry.depth depth less)))
  | inr past ↦
      let not_less = le-ltb entry.depth depth (omega (arith, past)) in
      first_above false not_less
      ∙ ap first (above-less depth entry.depth frames (omega (arith, past))) ∙ framed depth
      ∙ ap (frame_on file of before) (sym (way_up-by depth entry earlier false not_less))
]
  where
    on : Standing
    on = record { entry = entry; earlier = earlier }

    first : List (ℕ × EntryFrame) → EntryFrame
    first all = first_frame all

    first_above : (less : Bool) → nat_lt entry.depth depth ≡ less
        → frame_above depth (frames_to entry.depth frame frames) ≡ first_frame (cond less (frames_to entry.depth frame frames) (frames_above depth (frames_above entry.depth frames)))
    first_above less e = ap (λ b. first_frame (cond b (frames_to entry.depth frame frames) (frames_above depth (frames_above entry.depth frames)))) e

-- ---- pieces and numbers

-- the pieces of an entry are those that are read
pieces_read : (file : List ℕ) (of : InUnit) (before : ℕ) (entry : Entry) (ps : List (ℕ × ℕ)) → pieces file of before entry ≡ Ok ps → pieces_of file of entry ≡ ps
unfolding pieces
pieces_read file of before entry ps e = go (spelled_ranges of entry) e
  where
    few : (many : Bool) (place : Place) (live : List (ℕ × ℕ)) → cond many (Err place) (Ok live) ≡ Ok ps → live ≡ ps
    few true place live e = absurd cc
    few false place live e = cc

    go : (ranges : Result (List (ℕ × ℕ)) Place) → and_then ranges (λ r. within_limit entry.at before (live_ranges file r)) ≡ Ok ps
        → live_ranges file (result_unwrap_or ranges []) ≡ ps
    go (Ok ranges) e = few _ _ _ e
    go (Err place) e = absurd cc

none_there : (file : List ℕ) (of : InUnit) (entry : Entry) → pieces_of file of entry ≡ [] → has_pieces file of entry ≡ false
none_there file of entry e = ap (λ ps. nat_lt 0 (length ps)) e

some_there : (file : List ℕ) (of : InUnit) (entry : Entry) (piece : ℕ × ℕ) (more : List (ℕ × ℕ)) → pieces_of file of entry ≡ piece ∷ more → has_pieces file of entry ≡ true
some_there file of entry piece more e = ap (λ ps. nat_lt 0 (length ps)) e ∙ lt-ltb 0 (length (piece ∷ more)) (omega arith)

counted-more : (file : List ℕ) (of : InUnit) (before : ℕ) (entry : Entry) (earlier : List Entry)
    → function_count file of before earlier + cond (gives_function file of entry) 1 0 ≡ function_count file of before (entry ∷ earlier)
counted-more file of before entry earlier = omega (arith, sum_by-cons (λ (e : Entry). cond (gives_function file of e) 1 0) entry earlier)

with_member-length : {T : Type 0} (number : ℕ) (call : T) (functions : List (List T)) → length (with_member number call functions) ≡ length functions
with_member-length number call [] = refl
with_member-length zero call (function ∷ rest) = refl
with_member-length (suc number) call (function ∷ rest) = omega (arith, with_member-length number call rest)

with_call-length : {T : Type 0} (function : Option ℕ) (call : T) (functions : List (List T)) → length (with_call function call functions) ≡ length functions
with_call-length None call functions = refl
with_call-length (Some number) call functions = with_member-length number call functions

-- ---- both ways side by side

-- Both go on, with what is alike, or both stop at one place.
abbrev Agree : {X Y : Type 0} → (X → Y → Type 0) → Result X Place → Result Y Place → Type 0
Agree Alike (Ok x) (Ok y) = Alike x y
Agree Alike (Ok x) (Err place) = ⊥
Agree Alike (Err place) (Ok y) = ⊥
Agree Alike (Err first) (Err second) = first ≡ second

agree-then : {X Y Z W : Type 0} (Before : X → Y → Type 0) (Behind : Z → W → Type 0) (first : Result X Place) (second : Result Y Place) (f : X → Result Z Place) (g : Y → Result W Place)
    → Agree Before first second → ((x : X) (y : Y) → Before x y → Agree Behind (f x) (g y)) → Agree Behind (and_then first f) (and_then second g)
agree-then Before Behind (Ok x) (Ok y) f g alike next = next x y alike
agree-then Before Behind (Ok x) (Err place) f g alike next = absurd alike
agree-then Before Behind (Err place) (Ok y) f g alike next = absurd alike
agree-then Before Behind (Err first) (Err second) f g alike next = alike

agree-same : {X Z W : Type 0} (Behind : Z → W → Type 0) (read : Result X Place) (f : X → Result Z Place) (g : X → Result W Place)
    → ((x : X) → read ≡ Ok x → Agree Behind (f x) (g x)) → Agree Behind (and_then read f) (and_then read g)
agree-same Behind (Ok x) f g next = next x refl
agree-same Behind (Err place) f g next = refl

-- A tree with frames.
abbrev framed_tree : Tree → List (ℕ × EntryFrame) → SoFar Told
framed_tree tree frames = record { functions = tree.functions; pieces = tree.pieces; frames = frames }

-- What is collected behind some entries of a unit is the tree with frames that say what ways up say.
record IsFramed (file : List ℕ) (of : InUnit) (before : ℕ) (earlier : List Entry) (so_far : SoFar Told) (tree : Tree) : Type 0 where
  frames : List (ℕ × EntryFrame)
  is : so_far ≡ framed_tree tree frames
  counted : length tree.functions ≡ function_count file of before earlier
  framed : Framed file of before earlier frames

-- What is collected is the tree.
abbrev IsCollected : SoFar Told → Tree → Type 0
IsCollected so_far tree = (so_far.functions ≡ tree.functions) × (so_far.pieces ≡ tree.pieces)

-- ---- one entry

other-is : (depth : ℕ) (frame : EntryFrame) (tree : Tree) (frames : List (ℕ × EntryFrame)) → behind_other depth frame 0 (framed_tree tree frames) ≡ framed_tree tree (frames_to depth frame frames)
other-is depth frame tree frames =
    let same : tree.pieces + 0 ≡ tree.pieces = omega arith in
    ap {B = SoFar Told} (λ n. record { functions = tree.functions; pieces = n; frames = frames_to depth frame frames }) same

module _ (source : Source) (of : InUnit) (before : ℕ) (earlier : List Entry) (entry : Entry) (frames : List (ℕ × EntryFrame)) (tree : Tree)
    (counted : length tree.functions ≡ function_count source.file of before earlier) (framed : Framed source.file of before earlier frames) where
  abbrev on : Standing
  on = record { entry = entry; earlier = earlier }

  abbrev way : List Standing
  way = way_up entry.depth earlier

  -- an entry that adds no function
  other : (frame : EntryFrame) (new : Tree) → frame ≡ frame_with source.file of before on (frame_above entry.depth frames)
      → length new.functions ≡ length tree.functions → gives_function source.file of entry ≡ false
      → (so_far : SoFar Told) → so_far ≡ framed_tree new (frames_to entry.depth frame frames)
      → IsFramed source.file of before (entry ∷ earlier) so_far new
  other frame new frame_is long gives so_far is = record {
    frames = frames_to entry.depth frame frames;
    is = is;
    counted = omega (arith, long, counted, counted-more source.file of before entry earlier, ap {B = ℕ} (λ b. cond b 1 0) gives);
    framed = framed-more source.file of before entry earlier frames frame framed frame_is;
  }

  function_step : (ps : List (ℕ × ℕ)) → is_function entry ≡ true → pieces_of source.file of entry ≡ ps
      → Agree (IsFramed source.file of before (entry ∷ earlier)) (function_with source entry (framed_tree tree frames) ps) (tree_function_with source entry tree ps)
  function_step [] is has =
      let none = none_there source.file of entry has in
      other outside tree (rw is (rw none refl)) refl (rw is none) _ (other-is entry.depth outside tree frames)
  function_step (piece ∷ more) is has =
      let some = some_there source.file of entry piece more has in
      let gives : gives_function source.file of entry ≡ true = rw is some in
      agree-same (IsFramed source.file of before (entry ∷ earlier)) (origin source.sections.texts source.info entry) _ _
      (λ said same. record {
        frames = frames_to entry.depth (frame_of_function (length tree.functions)) frames;
        is = refl;
        counted = omega (arith, counted, counted-more source.file of before entry earlier, ap {B = ℕ} (λ b. cond b 1 0) gives, length-append tree.functions ((function_told entry (piece ∷ more) said ∷ []) ∷ []));
        framed = framed-more source.file of before entry earlier frames (frame_of_function (length tree.functions)) framed (rw is (rw some (ap frame_of_function counted)));
      })

  call_step : (ps : List (ℕ × ℕ)) → is_function entry ≡ false → is_call entry ≡ true → pieces_of source.file of entry ≡ ps
      → Agree (IsFramed source.file of before (entry ∷ earlier)) (call_with source entry (frame_on source.file of before way) (framed_tree tree frames) ps)
      (tree_call_with source (inlined_into source.file of before way) (length (calls_on way) + 1) entry tree ps)
  call_step [] not_function is has =
      let none = none_there source.file of entry has in
      other (left_out (frame_on source.file of before way)) tree (rw not_function (rw is (rw none (ap left_out (sym (framed entry.depth)))))) refl (rw not_function refl) _
      (other-is entry.depth (left_out (frame_on source.file of before way)) tree frames)
  call_step (piece ∷ more) not_function is has =
      let some = some_there source.file of entry piece more has in
      agree-same (IsFramed source.file of before (entry ∷ earlier)) (origin source.sections.texts source.info entry) _ _
      (λ said same. other (one_deeper (frame_on source.file of before way)) _ (rw not_function (rw is (rw some (ap one_deeper (sym (framed entry.depth))))))
      (with_call-length (inlined_into source.file of before way) (call_told (length (calls_on way) + 1) entry (piece ∷ more) said) tree.functions) (rw not_function refl) _ refl)

  entry_step : Agree (IsFramed source.file of before (entry ∷ earlier)) (next_entry source of entry (framed_tree tree frames)) (next_tree_entry source of before earlier entry tree)
  unfolding next_entry next_function next_call next_tree_entry next_tree_function next_tree_call
  entry_step = go (is_function entry) (is_call entry) refl refl
    where
      call_below : (above : EntryFrame) → above ≡ frame_on source.file of before way → is_function entry ≡ false → is_call entry ≡ true
          → Agree (IsFramed source.file of before (entry ∷ earlier))
          (and_then (not_too_deep entry.at (above.calls + 1)) (λ _. and_then (pieces source.file of tree.pieces entry) (call_with source entry above (framed_tree tree frames))))
          (and_then (not_too_deep entry.at (length (calls_on way) + 1))
          (λ _. and_then (pieces source.file of tree.pieces entry) (tree_call_with source (inlined_into source.file of before way) (length (calls_on way) + 1) entry tree)))
      call_below above above_is not_function is = subst
          (λ (f : EntryFrame). Agree (IsFramed source.file of before (entry ∷ earlier))
          (and_then (not_too_deep entry.at (f.calls + 1)) (λ _. and_then (pieces source.file of tree.pieces entry) (call_with source entry f (framed_tree tree frames))))
          (and_then (not_too_deep entry.at (length (calls_on way) + 1))
          (λ _. and_then (pieces source.file of tree.pieces entry) (tree_call_with source (inlined_into source.file of before way) (length (calls_on way) + 1) entry tree))))
          (sym above_is)
          (agree-same (IsFramed source.file of before (entry ∷ earlier)) (not_too_deep entry.at (length (calls_on way) + 1)) _ _
          (λ done fits. agree-same (IsFramed source.file of before (entry ∷ earlier)) (pieces source.file of tree.pieces entry) _ _
          (λ ps read. call_step ps not_function is (pieces_read source.file of tree.pieces entry ps read))))

      go : (function call : Bool) → is_function entry ≡ function → is_call entry ≡ call
          → Agree (IsFramed source.file of before (entry ∷ earlier))
          (cond function (and_then (pieces source.file of tree.pieces entry) (function_with source entry (framed_tree tree frames)))
          (cond call (and_then (not_too_deep entry.at ((frame_above entry.depth frames).calls + 1))
          (λ _. and_then (pieces source.file of tree.pieces entry) (call_with source entry (frame_above entry.depth frames) (framed_tree tree frames))))
          (Ok (behind_other entry.depth (frame_above entry.depth frames) 0 (framed_tree tree frames)))))
          (cond function (and_then (pieces source.file of tree.pieces entry) (tree_function_with source entry tree))
          (cond call (and_then (not_too_deep entry.at (length (calls_on way) + 1))
          (λ _. and_then (pieces source.file of tree.pieces entry) (tree_call_with source (inlined_into source.file of before way) (length (calls_on way) + 1) entry tree)))
          (Ok tree)))
      go true call is same_call =
          agree-same (IsFramed source.file of before (entry ∷ earlier)) (pieces source.file of tree.pieces entry) _ _
          (λ ps read. function_step ps is (pieces_read source.file of tree.pieces entry ps read))
      go false true not_function is = call_below (frame_above entry.depth frames) (framed entry.depth) not_function is
      go false false not_function not_call =
          other (frame_above entry.depth frames) tree (rw not_function (rw not_call refl)) refl (rw not_function refl) _ (other-is entry.depth (frame_above entry.depth frames) tree frames)

-- ---- entries one behind the other, and units

entries_step : (source : Source) (of : InUnit) (before : ℕ) (earlier entries : List Entry) (so_far : SoFar Told) (tree : Tree)
    → IsFramed source.file of before earlier so_far tree
    → Agree IsCollected (next_entries source of entries so_far) (next_tree_entries source of before earlier entries tree)
entries_step source of before earlier [] so_far tree f = (ap (λ (s : SoFar Told). s.functions) f.is, ap (λ (s : SoFar Told). s.pieces) f.is)
entries_step source of before earlier (entry ∷ rest) so_far tree f = agree-then
    (IsFramed source.file of before (entry ∷ earlier)) IsCollected (next_entry source of entry so_far) (next_tree_entry source of before earlier entry tree)
    (next_entries source of rest) (next_tree_entries source of before (entry ∷ earlier) rest)
    (subst (λ s. Agree (IsFramed source.file of before (entry ∷ earlier)) (next_entry source of entry s) (next_tree_entry source of before earlier entry tree)) (sym f.is)
    (entry_step source of before earlier entry f.frames tree f.counted f.framed))
    (λ new new_tree is. entries_step source of before (entry ∷ earlier) rest new new_tree is)

begun : (file : List ℕ) (of : InUnit) (so_far : SoFar Told) (tree : Tree) → IsCollected so_far tree
    → IsFramed file of (length tree.functions) [] (behind_unit so_far) tree
begun file of so_far tree is = record {
  frames = [];
  is = ap {B = SoFar Told} (λ fs. record { functions = fs; pieces = so_far.pieces; frames = [] }) is.0
      ∙ ap {B = SoFar Told} (λ n. record { functions = tree.functions; pieces = n; frames = [] }) is.1;
  counted = omega arith;
  framed = λ depth. refl;
}

unit_step : (source : Source) (number : ℕ) (unit : unit_model.Unit) (so_far : SoFar Told) (tree : Tree) → IsCollected so_far tree
    → Agree IsCollected (next_unit source number unit so_far) (next_tree_unit source number unit tree)
unfolding next_unit next_tree_unit
unit_step source number unit so_far tree is =
    agree-same IsCollected (base_address source.sections.texts source.info.units number) _ _
    (λ base same. entries_step source (in_unit source number unit base) (length tree.functions) [] (entries_of_unit source.info.units.entries unit) (behind_unit so_far) tree
    (begun source.file (in_unit source number unit base) so_far tree is))

units_step : (source : Source) (number : ℕ) (units : List unit_model.Unit) (so_far : SoFar Told) (tree : Tree) → IsCollected so_far tree
    → Agree IsCollected (next_units source number units so_far) (next_tree_units source number units tree)
units_step source number [] so_far tree is = is
units_step source number (unit ∷ rest) so_far tree is = agree-then
    IsCollected IsCollected (next_unit source number unit so_far) (next_tree_unit source number unit tree)
    (next_units source (number + 1) rest) (next_tree_units source (number + 1) rest) (unit_step source number unit so_far tree is)
    (λ new new_tree alike. units_step source (number + 1) rest new new_tree alike)

pub collected-are_members : CollectedAreMembers
unfolding members
collected-are_members source = go _ _ (units_step source 0 source.info.units.units nothing (record { functions = []; pieces = 0 }) (refl, refl))
  where
    go : (so_far : Result (SoFar Told) Place) (tree : Result Tree Place) → Agree IsCollected so_far tree
        → ◌≡◌ {A = Result (List Told) Place} (and_then so_far (λ all. Ok (all_members all))) (and_then tree (λ all. Ok (flat_map (λ function. function) all.functions)))
    go (Ok so_far) (Ok tree) is = ap (λ (fs : List (List Told)). Ok (flat_map (λ function. function) fs)) is.0
    go (Ok so_far) (Err place) is = absurd is
    go (Err place) (Ok tree) is = absurd is
    go (Err first) (Err second) is = ap Err is
