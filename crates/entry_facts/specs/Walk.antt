-- A reader of a range list: what it has read so far, and what it read in the end.
use Rattle.std.specs.Prelude.{◌≡◌, ℕ, ◌+◌, ◌-◌, ◌≤◌, ◌<◌, Bool, true, false, List, ◌++◌, All, length, drop, Some, Result, Ok, Err, ⊤}
use Rattle.refusal.specs.declared.place.Stop.{Stop}
use Rattle.refusal.specs.declared.place.Stop.TheVariants.{Refused, NoMemory}
use Rattle.refusal.specs.declared.place.Place.{Place}
use Rattle.byte_view.specs.Cursor.{Cursor}
use Rattle.dwarf_ranges.specs.Meaning.{start_of}
use Rattle.dwarf_ranges.specs.declared.list.RangeList.{RangeList}
use Rattle.unit_model.specs.Values.{Found}
use Rattle.range_model.specs.Lists.{RangeSections, Resolves, bad_in_list, list_of, max_entries, ranges_from}
use Rattle.tree_model.specs.Pieces.{InUnit, live_ranges}
use Rattle.entry_facts.specs.Lists.{IsRest, Stands, left_of, live_listed, section_by}
use Rattle.entry_facts.specs.declared.tail.ListMark.{ListMark}
use Rattle.entry_facts.specs.declared.tail.Walked.{Walked}
use Rattle.entry_facts.specs.declared.walk.ListWalk.{ListWalk}

-- From a cursor on so many entries were read up to another one, which have these live ranges.
pub record Reached (file : List ℕ) (resolve : Resolves) (pairs : Bool) (start : Cursor) (first_base : ℕ) (cur : Cursor)
    (base count : ℕ) (live : List (ℕ × ℕ)) : Type 0 where
  pub bad : (before : ℕ) → before + count ≤ max_entries
      → bad_in_list resolve before (left_of pairs start) ≡ bad_in_list resolve (before + count) (left_of pairs cur)
  pub found : live_ranges file (ranges_from resolve first_base (left_of pairs start).entries)
      ≡ live ++ live_ranges file (ranges_from resolve base (left_of pairs cur).entries)

-- The reader of a list came by a mark.
pub record IsPassed (file : List ℕ) (sections : RangeSections) (resolve : Resolves) (pairs : Bool) (cur : Cursor)
    (base passed : ℕ) (live : List (ℕ × ℕ)) (mark : ListMark) : Type 0 where
  pub start : Cursor
  pub at : start.at ≡ mark.at
  pub stands : Stands (section_by sections pairs) start
  pub since : ℕ
  pub counted : mark.passed + since ≡ passed
  pub within : mark.found ≤ length live
  pub reached : Reached file resolve pairs start mark.base cur base since (drop mark.found live)

-- A reader that began at a cursor, so far.
pub record IsReading (file : List ℕ) (sections : RangeSections) (resolve : Resolves) (pairs : Bool) (start : Cursor)
    (first_base : ℕ) (walk : ListWalk) : Type 0 where
  pub few : walk.passed ≤ max_entries
  pub stands : Stands (section_by sections pairs) walk.cur
  pub reached : Reached file resolve pairs start first_base walk.cur walk.base walk.passed walk.live.items
  pub marks : All (IsPassed file sections resolve pairs walk.cur walk.base walk.passed walk.live.items) walk.marks.items

-- A list comes to this from a mark on.
pub record IsMarked (file : List ℕ) (sections : RangeSections) (resolve : Resolves) (pairs : Bool) (entries : ℕ)
    (live : List (ℕ × ℕ)) (mark : ListMark) : Type 0 where
  pub start : Cursor
  pub at : start.at ≡ mark.at
  pub stands : Stands (section_by sections pairs) start
  pub counted : mark.passed ≤ entries
  pub within : mark.found ≤ length live
  pub rest : IsRest file resolve pairs start mark.base (entries - mark.passed) (drop mark.found live)

-- A list was read that begins at a cursor.
pub record IsWalked (file : List ℕ) (sections : RangeSections) (resolve : Resolves) (pairs : Bool) (start : Cursor)
    (first_base entries : ℕ) (live : List (ℕ × ℕ)) (marks : List ListMark) : Type 0 where
  pub few : entries ≤ max_entries
  pub all : IsRest file resolve pairs start first_base entries live
  pub marked : All (IsMarked file sections resolve pairs entries live) marks

-- A call passed an entry, or found the end of the list, or the place where the list is bad.
abbrev pub Steps : List ℕ → RangeSections → Resolves → Bool → Cursor → ℕ → ListWalk → ListWalk → Result Bool Stop
    → Type 0
Steps file sections resolve pairs start first_base old new (Ok true) =
    IsReading file sections resolve pairs start first_base new × (length new.cur.left < length old.cur.left)
Steps file sections resolve pairs start first_base old new (Ok false) =
    IsWalked file sections resolve pairs start first_base new.passed new.live.items new.marks.items
Steps file sections resolve pairs start first_base old new (Err (Refused place)) =
    bad_in_list resolve 0 (left_of pairs start) ≡ Some place
Steps file sections resolve pairs start first_base old new (Err NoMemory) = ⊤

-- A call found the list that an attribute leads to, or the place that stands in its way.
abbrev pub FindsList : List ℕ → InUnit → Found → Result RangeList Place → Type 0
FindsList file of found (Ok list) =
    (list_of of.version of.sections of.bases found.value ≡ Ok (start_of list))
    × Stands (section_by of.sections list.pairs) list.cur
FindsList file of found (Err place) = live_listed file of found ≡ Err place

-- A call read a list whole, or found the place where it is bad.
abbrev pub Walks : List ℕ → RangeSections → Resolves → Bool → Cursor → ℕ → Result Walked Stop → Type 0
Walks file sections resolve pairs start first_base (Ok walked) =
    IsWalked file sections resolve pairs start first_base walked.entries walked.live.items walked.marks.items
Walks file sections resolve pairs start first_base (Err (Refused place)) =
    bad_in_list resolve 0 (left_of pairs start) ≡ Some place
Walks file sections resolve pairs start first_base (Err NoMemory) = ⊤
