-- What is kept of range lists is what is told.
use Rattle.std.proofs.Common.{◌≡◌, ◌+◌, ◌-◌, ◌<◌, ◌≤◌, ℕ, Bool, true, false, cond, length, take, drop, All, List, get_or, [], ◌++◌, Option, None, Some, Result, Ok, Err, slice_range, refl, sym, ap, subst, ◌∙◌, inl, inr, arith}
use Rattle.std.specs.Prelude.{◌⊎◌, nat_lt}
use Rattle.std.proofs.lemmas.Bool.{cases_Bool, le-ltb, lt-ltb, ltb-false}
use Rattle.std.specs.Result.{IsErrAnd}
use Rattle.std.proofs.lemmas.Option.{same_Some}
use Rattle.std.proofs.lemmas.Result.{err_from_is_err_and}
use Rattle.std.proofs.lemmas.List.Elements.{All-get_or, All-same}
use Rattle.std.proofs.lemmas.List.{drop-append-le, drop-drop, drop_at, length-append, length-drop, length-take-le, take-append-drop, take-append-le, take_all}
use Rattle.refusal.specs.declared.kind.Kind.TheVariants.{TooManyRanges}
use Rattle.refusal.specs.declared.kind.Kind.{Kind}
use Rattle.refusal.specs.declared.place.Place.{Place}
use Rattle.refusal.specs.declared.place.Stop.{Stop}
use Rattle.refusal.specs.declared.place.Stop.TheVariants.{Refused, NoMemory}
use Rattle.refusal.specs.Place.{in_binary}
use Rattle.byte_view.specs.Cursor.{Cursor}
use Rattle.value_model.specs.Value.{Value, addr, addr_index, block, const, flag, line_str_at, loc_index, offset, range_index, ref, ref_info, sig, str_at, str_index, text}
use Rattle.range_model.specs.Lists.{Piece, RangeSections, Resolves, Start, bad_in_list, bad_range, entries_of, list_behind, list_by_version, list_in, list_of, ranges_from, ranges_of}
use Rattle.range_model.specs.Texts.{Bases, address_of}
use Rattle.dwarf_strings.specs.Meaning.{bases_of}
use Rattle.dwarf_strings.specs.declared.unit.Bases.{Bases as TheBases}
use Rattle.tree_model.specs.Pieces.{InUnit, RangesOrPlace, and_then, live_ranges, max_pieces, pieces, spelled_ranges, unless, within_limit}
use Rattle.unit_model.specs.Values.{Found}
use Rattle.unit_model.specs.Entries.{Entry}
use Rattle.entry_facts.specs.Kept.{AddsKnown, kept_at}
use Rattle.entry_facts.specs.Lists.{AddsTail, IsTail, LongLists, RemembersLists, Stands, live_listed, live_spelled, no_lists, section_by, tail_at}
use Rattle.entry_facts.specs.Told.{GivesUnlessNoMemory}
use Rattle.entry_facts.specs.Walk.{IsMarked, Walks}
use Rattle.entry_facts.specs.declared.tail.ListMark.{ListMark}
use Rattle.entry_facts.specs.declared.tail.Tail.{Tail}

-- ---- nothing is kept

nothing_at : (pairs : Bool) (at : ℕ) (tail : Tail) → tail_at no_lists pairs at ≡ Some tail → ⊥
nothing_at true at tail here = cc
nothing_at false at tail here = cc

pub lists_none : (file : List ℕ) (sections : RangeSections) (kept : LongLists) → kept ≡ no_lists → RemembersLists file sections kept
lists_none file sections kept none =
    subst (λ (k : LongLists). RemembersLists file sections k) (sym none) (λ pairs at tail here. absurd (nothing_at pairs at tail here))

-- ---- where a list stands

in_section : (pairs : Bool) (section : Option Piece) (from : ℕ) (start : Start) → list_in pairs section from ≡ Ok start
    → (start.pairs ≡ pairs) × Stands section (record { at = start.at; left = start.bytes })
in_section pairs None from start is = absurd cc
in_section pairs (Some piece) from start is =
    elim (cases_Bool (nat_lt (length piece.bytes) from)) [
      | inl past ↦ absurd (let no = rw past at is in cc)
      | inr there ↦
          let within : from ≤ length piece.bytes = ltb-false (length piece.bytes) from there in
          let read = rw there at is in
          let same : ◌≡◌ {A = Start} (record { pairs = pairs; at = piece.at + from; bytes = drop from piece.bytes }) start = cc in
          subst (λ (s : Start). (s.pairs ≡ pairs) × Stands (Some piece) (record { at = s.at; left = s.bytes })) same (
            refl,
            record {
              piece = piece;
              there = refl;
              front = take from piece.bytes;
              parts = sym (take-append-drop from piece.bytes);
              at = ap (λ (n : ℕ). piece.at + n) (sym (length-take-le from piece.bytes within));
            },
          )
    ]

by_version : (version : ℕ) (sections : RangeSections) (from : ℕ) (start : Start) → list_by_version version sections from ≡ Ok start
    → Stands (section_by sections start.pairs) (record { at = start.at; left = start.bytes })
by_version version sections from start is =
    elim (cases_Bool (nat_lt version 5)) [
      | inl early ↦ let found = in_section true sections.ranges from start (rw early at is) in rw found.0 found.1
      | inr late ↦ let found = in_section false sections.rnglists from start (rw late at is) in rw found.0 found.1
    ]

by_index : (sections : RangeSections) (base : Option ℕ) (from : Result ℕ Kind) (start : Start) → list_behind base sections.rnglists from ≡ Ok start
    → Stands (section_by sections start.pairs) (record { at = start.at; left = start.bytes })
by_index sections base (Ok from) start is = let found = in_section false sections.rnglists _ start is in rw found.0 found.1
by_index sections base (Err kind) start is = absurd cc

-- a list stands in its section
pub list_stands : (version : ℕ) (sections : RangeSections) (bases : Bases) (value : Value) (start : Start) → list_of version sections bases value ≡ Ok start
    → Stands (section_by sections start.pairs) (record { at = start.at; left = start.bytes })
list_stands version sections bases (offset from) start is = by_version version sections from start is
list_stands version sections bases (const from) start is = by_version version sections from start is
list_stands version sections bases (range_index index) start is = by_index sections bases.rnglists _ start is
list_stands version sections bases (addr n) start is = absurd cc
list_stands version sections bases (block n) start is = absurd cc
list_stands version sections bases (text n) start is = absurd cc
list_stands version sections bases (flag n) start is = absurd cc
list_stands version sections bases (str_at n) start is = absurd cc
list_stands version sections bases (line_str_at n) start is = absurd cc
list_stands version sections bases (str_index n) start is = absurd cc
list_stands version sections bases (addr_index n) start is = absurd cc
list_stands version sections bases (ref_info n) start is = absurd cc
list_stands version sections bases (ref n) start is = absurd cc
list_stands version sections bases (sig n) start is = absurd cc
list_stands version sections bases (loc_index n) start is = absurd cc

-- ---- what a list comes to

-- the live ranges of a list, by where it begins
abbrev judged : List ℕ → InUnit → ℕ → Result Start Kind → RangesOrPlace
judged file of at start =
    and_then (unless (elim start [
      | Err kind ↦ Some (in_binary at kind)
      | Ok s ↦ bad_in_list (address_of of.sections.texts of.bases) 0 (entries_of s)
    ]) (elim start [
      | Err kind ↦ []
      | Ok s ↦ ranges_from (address_of of.sections.texts of.bases) of.base (entries_of s).entries
    ])) (λ ranges. Ok (live_ranges file ranges))

by_start : (file : List ℕ) (of : InUnit) (found : Found) → live_listed file of found ≡ judged file of found.at (list_of of.version of.sections of.bases found.value)
unfolding bad_range ranges_of
by_start file of found = refl

-- no list
pub told_none : (file : List ℕ) (of : InUnit) (found : Found) (kind : Kind) → list_of of.version of.sections of.bases found.value ≡ Err kind
    → live_listed file of found ≡ Err (in_binary found.at kind)
told_none file of found kind is = by_start file of found ∙ ap (judged file of found.at) is

-- a list that is bad
pub told_bad : (file : List ℕ) (of : InUnit) (found : Found) (start : Start) (place : Place) → list_of of.version of.sections of.bases found.value ≡ Ok start
    → bad_in_list (address_of of.sections.texts of.bases) 0 (entries_of start) ≡ Some place → live_listed file of found ≡ Err place
told_bad file of found start place is bad = by_start file of found ∙ ap (judged file of found.at) is ∙ rw bad refl

-- a list that was read
pub told_live : (file : List ℕ) (of : InUnit) (found : Found) (start : Start) (live : List (ℕ × ℕ)) → list_of of.version of.sections of.bases found.value ≡ Ok start
    → bad_in_list (address_of of.sections.texts of.bases) 0 (entries_of start) ≡ None
    → live_ranges file (ranges_from (address_of of.sections.texts of.bases) of.base (entries_of start).entries) ≡ live → live_listed file of found ≡ Ok live
told_live file of found start live is good live_is = by_start file of found ∙ ap (judged file of found.at) is ∙ rw good (ap Ok live_is)

-- no list could be read
pub told_stop : {X : Type 0} (seen : X → List (ℕ × ℕ)) (file : List ℕ) (of : InUnit) (found : Found) (start : Start) (why : Stop) (r : Result X Stop)
    → list_of of.version of.sections of.bases found.value ≡ Ok start
    → Walks file of.sections (address_of of.sections.texts of.bases) start.pairs (record { at = start.at; left = start.bytes }) of.base (Err why)
    → IsErrAnd r (λ s. s ≡ why) → GivesUnlessNoMemory seen r (live_listed file of found)
told_stop seen file of found start (Refused place) r is bad stops =
    let p = err_from_is_err_and r stops in rw (p.1, p.2) (told_bad file of found start place is bad)
told_stop seen file of found start NoMemory r is bad stops = let p = err_from_is_err_and r stops in rw (p.1, p.2) tt

-- ---- one tail more

of_pairs_adds : (at place : ℕ) (tail kept : Tail) (before : Type 0) → before ⊎ ((place ≡ at) × (kept ≡ tail))
    → (pairs : Bool) → before ⊎ ((pairs ≡ pairs) × (place ≡ at) × (kept ≡ tail))
of_pairs_adds at place tail kept before (inl b) pairs = inl b
of_pairs_adds at place tail kept before (inr same) pairs = inr (refl, same.0, same.1)

pub adds_to_pairs : (old new : LongLists) (at : ℕ) (tail : Tail) → AddsKnown old.of_pairs new.of_pairs at tail → new.coded ≡ old.coded → new.live ≡ old.live
    → AddsTail old new true at tail
adds_to_pairs old new at tail adds same live = (live, go) where
  go : (other : Bool) (place : ℕ) (kept : Tail) → tail_at new other place ≡ Some kept
      → (tail_at old other place ≡ Some kept) ⊎ ((other ≡ true) × (place ≡ at) × (kept ≡ tail))
  go true place kept here = of_pairs_adds at place tail kept _ (adds place kept here) true
  go false place kept here = inl (subst (λ (l : List (ℕ × Tail)). kept_at l place ≡ Some kept) same here)

pub adds_to_coded : (old new : LongLists) (at : ℕ) (tail : Tail) → AddsKnown old.coded new.coded at tail → new.of_pairs ≡ old.of_pairs → new.live ≡ old.live
    → AddsTail old new false at tail
adds_to_coded old new at tail adds same live = (live, go) where
  go : (other : Bool) (place : ℕ) (kept : Tail) → tail_at new other place ≡ Some kept
      → (tail_at old other place ≡ Some kept) ⊎ ((other ≡ false) × (place ≡ at) × (kept ≡ tail))
  go true place kept here = inl (subst (λ (l : List (ℕ × Tail)). kept_at l place ≡ Some kept) same here)
  go false place kept here = of_pairs_adds at place tail kept _ (adds place kept here) false

pub ruleset adds_tail_lemmas = (adds_to_pairs, adds_to_coded)

-- ---- a cursor is told by its place

same_left : (section : Option Piece) (a b : Cursor) → Stands section a → Stands section b → a.at ≡ b.at → a ≡ b
same_left section a b first second at =
    let pieces : ◌≡◌ {A = Option Piece} (Some first.piece) (Some second.piece) = sym first.there ∙ second.there in
    let piece : first.piece ≡ second.piece = same_Some _ _ pieces in
    let place : first.piece.at + length first.front ≡ second.piece.at + length second.front = sym first.at ∙ at ∙ second.at in
    let sized : length first.front ≡ length second.front = omega (arith, place, ap (λ (p : Piece). p.at) piece) in
    let whole : first.front ++ a.left ≡ second.front ++ b.left = sym first.parts ∙ ap (λ (p : Piece). p.bytes) piece ∙ second.parts in
    let left : a.left ≡ b.left =
    sym (drop_at first.front a.left (length first.front) refl)
    ∙ ap (drop (length first.front)) whole
    ∙ drop_at second.front b.left (length first.front) (sym sized) in
    ap (λ (n : ℕ). record { at = n; left = a.left }) at ∙ ap (λ (l : List ℕ). record { at = b.at; left = l }) left

-- what a list comes to from a mark on is kept
pub tail_kept : (file : List ℕ) (sections : RangeSections) (old new : LongLists) (pairs : Bool) (entries from : ℕ) (bases : TheBases) (mark : ListMark) (tail : Tail)
    → AddsTail old new pairs mark.at tail → tail.base ≡ mark.base → tail.bases ≡ bases → tail.entries ≡ entries - mark.passed → tail.from ≡ from + mark.found
    → tail.to ≡ length old.live → from + mark.found ≤ length old.live
    → IsMarked file sections (address_of sections.texts (bases_of bases)) pairs entries (drop from old.live) mark
    → RemembersLists file sections old → RemembersLists file sections new
tail_kept file sections old new pairs entries from bases mark tail adds base bases_is entries_is from_is to_is within marked known = λ other place kept here.
    subst (λ (l : List (ℕ × ℕ)). IsTail file sections l other place kept) (sym adds.0)
    (elim (adds.1 other place kept here) [
      | inl before ↦ known other place kept before
      | inr same ↦
          let mine : IsTail file sections old.live pairs mark.at tail = record {
            ordered = omega (arith, from_is, to_is, within);
            within = omega (arith, to_is);
            told = λ cur at stands.
                let here_it_is : marked.start ≡ cur = same_left (section_by sections pairs) marked.start cur marked.stands stands (marked.at ∙ sym at) in
                let live : drop mark.found (drop from old.live) ≡ slice_range old.live tail.from tail.to =
                drop-drop mark.found from old.live ∙ rw (from_is, to_is) (sym (take_all (length old.live - (from + mark.found)) (drop (from + mark.found) old.live) (omega (arith, length-drop (from + mark.found) old.live)))) in
                rw (← here_it_is, base, bases_is, entries_is, ← live) marked.rest;
          } in
          rw (same.0, same.1, same.2) mine
    ])

tail_before : (pairs : Bool) (old new : LongLists) (at : ℕ) (tail : Tail) → new.of_pairs ≡ old.of_pairs → new.coded ≡ old.coded
    → tail_at new pairs at ≡ Some tail → tail_at old pairs at ≡ Some tail
tail_before true old new at tail pairs_same coded_same here = subst (λ (l : List (ℕ × Tail)). kept_at l at ≡ Some tail) pairs_same here
tail_before false old new at tail pairs_same coded_same here = subst (λ (l : List (ℕ × Tail)). kept_at l at ≡ Some tail) coded_same here

-- more live ranges are kept
pub more_live : (file : List ℕ) (sections : RangeSections) (old new : LongLists) (more : List (ℕ × ℕ)) → new.of_pairs ≡ old.of_pairs → new.coded ≡ old.coded
    → new.live ≡ old.live ++ more → RemembersLists file sections old → RemembersLists file sections new
more_live file sections old new more pairs_same coded_same live_is known = λ pairs place tail here.
    let before = tail_before pairs old new place tail pairs_same coded_same here in
    let was = known pairs place tail before in
    let part : slice_range (old.live ++ more) tail.from tail.to ≡ slice_range old.live tail.from tail.to =
    (let ordered = was.ordered in let within = was.within in
    ap (take (tail.to - tail.from)) (drop-append-le tail.from old.live more (omega arith))
    ∙ take-append-le (tail.to - tail.from) (drop tail.from old.live) more (omega (arith, length-drop tail.from old.live))) in
    record {
      ordered = was.ordered;
      within = let within = was.within in omega (arith, ap length live_is, length-append old.live more);
      told = λ cur at stands. rw (live_is, part) (was.told cur at stands);
    }

-- what a list comes to from one of its marks on is kept
pub kept_more : (file : List ℕ) (sections : RangeSections) (resolve : Resolves) (pairs : Bool) (entries from i : ℕ) (d : ListMark) (first live : List (ℕ × ℕ)) (marks items : List ListMark)
    (old new : LongLists) → old.live ≡ first ++ live → length first ≡ from → items ≡ marks → i < length items
    → All (IsMarked file sections resolve pairs entries live) marks
    → (IsMarked file sections resolve pairs entries (drop from old.live) (get_or items i d) → RemembersLists file sections old → RemembersLists file sections new)
    → RemembersLists file sections old → RemembersLists file sections new
kept_more file sections resolve pairs entries from i d first live marks items old new live_is sized same within marked keeps known =
    let part : drop from old.live ≡ live = ap (drop from) live_is ∙ drop_at first live from sized in
    let here = All-get_or (IsMarked file sections resolve pairs entries live) items i d within (All-same (IsMarked file sections resolve pairs entries live) items marks same marked) in
    keeps (subst (λ (l : List (ℕ × ℕ)). IsMarked file sections resolve pairs entries l (get_or items i d)) (sym part) here) known

-- ---- the pieces of an entry

in_two : (r : RangesOrPlace) (next : List (ℕ × ℕ) → RangesOrPlace) (file : List ℕ)
    → and_then r (λ ranges. next (live_ranges file ranges)) ≡ and_then (and_then r (λ ranges. Ok (live_ranges file ranges))) next
in_two (Ok ranges) next file = refl
in_two (Err place) next file = refl

-- pieces are its live ranges, where there are not too many
pieces_live : (file : List ℕ) (of : InUnit) (before : ℕ) (entry : Entry) (r : RangesOrPlace) → live_spelled file of entry ≡ r
    → pieces file of before entry ≡ and_then r (λ live. within_limit entry.at before live)
unfolding pieces
pieces_live file of before entry r is =
    in_two (spelled_ranges of entry) (λ live. within_limit entry.at before live) file ∙ ap (λ x. and_then x (λ live. within_limit entry.at before live)) is

pub pieces_bad : (file : List ℕ) (of : InUnit) (before : ℕ) (entry : Entry) (place : Place) → live_spelled file of entry ≡ Err place → pieces file of before entry ≡ Err place
pieces_bad file of before entry place is = pieces_live file of before entry (Err place) is

pub pieces_few : (file : List ℕ) (of : InUnit) (before : ℕ) (entry : Entry) (live : List (ℕ × ℕ)) → live_spelled file of entry ≡ Ok live → before + length live ≤ max_pieces
    → pieces file of before entry ≡ Ok live
pieces_few file of before entry live is few =
    pieces_live file of before entry (Ok live) is ∙ ap (λ b. cond b (Err (in_binary entry.at TooManyRanges)) (Ok live)) (le-ltb max_pieces (before + length live) few)

pub pieces_many : (file : List ℕ) (of : InUnit) (before : ℕ) (entry : Entry) (live : List (ℕ × ℕ)) → live_spelled file of entry ≡ Ok live → max_pieces < before + length live
    → pieces file of before entry ≡ Err (in_binary entry.at TooManyRanges)
pieces_many file of before entry live is many =
    pieces_live file of before entry (Ok live) is ∙ ap (λ b. cond b (Err (in_binary entry.at TooManyRanges)) (Ok live)) (lt-ltb max_pieces (before + length live) many)
