-- What is kept of the range lists that were read: what they come to from places on.
use Rattle.std.specs.Prelude.{◌≡◌, ℕ, ◌+◌, ◌≤◌, Bool, true, false, List, [], ◌++◌, length, slice_range, ◌⊎◌, Option, None, Some, Ok}
use Rattle.byte_view.specs.Cursor.{Cursor}
use Rattle.range_model.specs.Lists.{Listed, Piece, RangeSections, Resolves, bad_in_list, entries_from, max_entries, ranges_from}
use Rattle.range_model.specs.Texts.{address_of}
use Rattle.dwarf_strings.specs.Meaning.{bases_of}
use Rattle.tree_model.specs.Pieces.{InUnit, RangesOrPlace, and_then, listed, live_ranges, spelled_ranges}
use Rattle.unit_model.specs.Entries.{Entry}
use Rattle.unit_model.specs.Values.{Found}
use Rattle.entry_facts.specs.Kept.{kept_at}
use Rattle.entry_facts.specs.declared.tail.Tail.{Tail}

-- The tails that are kept, by the places in the file at which they begin: of lists of pairs, and of others; and the
-- live ranges of them all.
pub record LongLists : Type 0 where
  pub of_pairs : List (ℕ × Tail)
  pub coded : List (ℕ × Tail)
  pub live : List (ℕ × ℕ)

-- Nothing is kept.
abbrev pub no_lists : LongLists
no_lists = record { of_pairs = []; coded = []; live = [] }

-- The tail that is kept for a place.
abbrev pub tail_at : LongLists → Bool → ℕ → Option Tail
tail_at kept true at = kept_at kept.of_pairs at
tail_at kept false at = kept_at kept.coded at

-- What is kept behind a call was kept before it, or is this tail at this place.
abbrev pub AddsTail : LongLists → LongLists → Bool → ℕ → Tail → Type 0
AddsTail old new pairs at tail =
    (new.live ≡ old.live)
    × ((other : Bool) (place : ℕ) (kept : Tail) → tail_at new other place ≡ Some kept
    → (tail_at old other place ≡ Some kept) ⊎ ((other ≡ pairs) × (place ≡ at) × (kept ≡ tail)))

-- The section in which lists of pairs stand, or others.
abbrev pub section_by : RangeSections → Bool → Option Piece
section_by sections true = sections.ranges
section_by sections false = sections.rnglists

-- A cursor stands in a section.
pub record Stands (section : Option Piece) (cur : Cursor) : Type 0 where
  pub piece : Piece
  pub there : section ≡ Some piece
  pub front : List ℕ
  pub parts : piece.bytes ≡ front ++ cur.left
  pub at : cur.at ≡ piece.at + length front

-- What is left of a list where a cursor stands.
abbrev pub left_of : Bool → Cursor → Listed
left_of pairs cur = entries_from pairs cur.at cur.left

-- What is left of a list where a cursor stands is good behind as many others as leave room for so many entries, and has
-- these live ranges.
pub record IsRest (file : List ℕ) (resolve : Resolves) (pairs : Bool) (cur : Cursor) (base entries : ℕ)
    (live : List (ℕ × ℕ)) : Type 0 where
  pub good : (before : ℕ) → before + entries ≤ max_entries → bad_in_list resolve before (left_of pairs cur) ≡ None
  pub live_is : live_ranges file (ranges_from resolve base (left_of pairs cur).entries) ≡ live

-- What is kept for a place is what lists come to there.
pub record IsTail (file : List ℕ) (sections : RangeSections) (live : List (ℕ × ℕ)) (pairs : Bool) (at : ℕ)
    (tail : Tail) : Type 0 where
  pub ordered : tail.from ≤ tail.to
  pub within : tail.to ≤ length live
  pub told : (cur : Cursor) → cur.at ≡ at → Stands (section_by sections pairs) cur
      → IsRest file (address_of sections.texts (bases_of tail.bases)) pairs cur tail.base tail.entries
      (slice_range live tail.from tail.to)

-- What is kept is so.
abbrev pub RemembersLists : List ℕ → RangeSections → LongLists → Type 0
RemembersLists file sections kept =
    (pairs : Bool) (at : ℕ) (tail : Tail) → tail_at kept pairs at ≡ Some tail
    → IsTail file sections kept.live pairs at tail

-- Those ranges of a list that are code of the file.
abbrev pub live_listed : List ℕ → InUnit → Found → RangesOrPlace
live_listed file of found = and_then (listed of found) (λ ranges. Ok (live_ranges file ranges))

-- Those ranges that an entry spells that are code of the file.
abbrev pub live_spelled : List ℕ → InUnit → Entry → RangesOrPlace
live_spelled file of entry = and_then (spelled_ranges of entry) (λ ranges. Ok (live_ranges file ranges))
