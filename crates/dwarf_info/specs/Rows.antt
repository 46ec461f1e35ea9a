-- Entries in memory: a row for each, and the attributes of all in one list.
use Rattle.std.specs.Prelude.{ℕ, ◌+◌, ◌≤◌, ◌<◌, List, map, length, slice_range, AllPairs}
use Rattle.std.specs.List.{AllByRecursion}
use Rattle.unit_model.specs.Values.{Found}
use Rattle.unit_model.specs.Entries.{Entry}
use Rattle.dwarf_info.specs.declared.rows.EntryRow.{EntryRow}

-- A row of these numbers.
abbrev pub row_made : (at tag depth unit first count : ℕ) → EntryRow
row_made at tag depth unit first count = record {
  tag = tag;
  at = at;
  unit = unit;
  first = first;
  depth = depth;
  count = count;
}

-- The entry of a row.
abbrev pub entry_of_row : List Found → EntryRow → Entry
entry_of_row found row = record {
  at = row.at;
  depth = row.depth;
  tag = row.tag;
  unit = row.unit;
  found = slice_range found row.first (row.first + row.count);
}

-- The attributes of a row are some of the list.
pub record IsWithin (found : List Found) (row : EntryRow) : Type 0 where
  pub within : row.first + row.count ≤ length found

-- The entries of rows.
abbrev pub entries_of : List Found → List EntryRow → List Entry
entries_of found rows = map (entry_of_row found) rows

-- The attributes of each row are some of the list.
abbrev pub AreWithin : List Found → List EntryRow → Type 0
AreWithin found rows = AllByRecursion (IsWithin found) rows

-- The rows stand in the order of the file.
abbrev pub Ascend : List EntryRow → Type 0
Ascend rows = AllPairs (λ before after. before.at < after.at) rows
