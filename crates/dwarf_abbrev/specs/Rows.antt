-- A table in memory: a row for each abbreviation, and the attributes of all in one list.
use Rattle.std.specs.Prelude.{◌≡◌, ◌≤◌, Bool, true, false, List, [], ◌∷◌, ◌++◌, map, length, slice_range, Option, Some, None, Result, Ok, Err, ⊤}
use Rattle.std.specs.List.{AllByRecursion}
use Rattle.byte_view.specs.Cursor.{Cursor}
use Rattle.refusal.specs.declared.place.Stop.{Stop}
use Rattle.refusal.specs.declared.place.Stop.TheVariants.{Refused, NoMemory}
use Rattle.placed_view.specs.Reader.{Read}
use Rattle.unit_model.specs.Abbrev.{Attr, Abbrev}
use Rattle.dwarf_abbrev.specs.declared.rows.AbbrevRow.{AbbrevRow}
use Rattle.dwarf_abbrev.specs.declared.rows.AbbrevRows.{AbbrevRows}

-- The abbreviation of a row.
abbrev pub abbrev_of_row : List Attr → AbbrevRow → Abbrev
abbrev_of_row attrs row = record {
  code = row.code;
  tag = row.tag;
  children = row.children;
  attrs = slice_range attrs row.first row.end;
}

-- The attributes of a row are some of the list.
pub record IsWithin (attrs : List Attr) (row : AbbrevRow) : Type 0 where
  pub ordered : row.first ≤ row.end
  pub within : row.end ≤ length attrs

-- The table that the rows are.
abbrev pub table_of : AbbrevRows → List Abbrev
table_of rows = map (abbrev_of_row rows.attrs.items) rows.rows.items

-- The attributes of each row are some of the list, and the codes are the rows'.
pub record IsWhole (rows : AbbrevRows) : Type 0 where
  pub within : AllByRecursion (IsWithin rows.attrs.items) rows.rows.items
  pub codes : map (λ row. row.code) rows.rows.items ≡ rows.codes

-- A row stands behind the others, and nothing else has changed.
pub record AddsRow (old new : AbbrevRows) (row : AbbrevRow) : Type 0 where
  pub rows : new.rows.items ≡ old.rows.items ++ row ∷ []
  pub codes : new.codes ≡ old.codes ++ row.code ∷ []
  pub attrs : new.attrs.items ≡ old.attrs.items

-- The table has one abbreviation more.
pub record AddsAbbrev (old new : AbbrevRows) (more : Abbrev) : Type 0 where
  pub whole : IsWhole new
  pub table : table_of new ≡ table_of old ++ more ∷ []

-- An abbreviation is read and stands behind the others.
abbrev pub ReadsAbbrev : Result (Unit {0}) Stop → AbbrevRows → AbbrevRows → Cursor → Read Abbrev → Type 0
ReadsAbbrev (Ok done) old new cur read = (more : Abbrev) × AddsAbbrev old new more × (read ≡ Ok (more, cur))
ReadsAbbrev (Err (Refused place)) old new cur read = read ≡ Err place
ReadsAbbrev (Err NoMemory) old new cur read = ⊤

-- The next abbreviation is read, where the table does not end.
abbrev pub ReadsNext : Result Bool Stop → AbbrevRows → AbbrevRows → Cursor → Read (Option (List Abbrev)) → Type 0
ReadsNext (Ok true) old new cur read = IsWhole new × (read ≡ Ok (Some (table_of new), cur))
ReadsNext (Ok false) old new cur read = (new ≡ old) × (read ≡ Ok (None, cur))
ReadsNext (Err (Refused place)) old new cur read = read ≡ Err place
ReadsNext (Err NoMemory) old new cur read = ⊤

-- The first abbreviation of a table is read as a table of its own, where the table does not end.
abbrev pub ReadsFirst : Result (Option (List Abbrev)) Stop → Cursor → Read (Option (List Abbrev)) → Type 0
ReadsFirst (Ok first) cur read = read ≡ Ok (first, cur)
ReadsFirst (Err (Refused place)) cur read = read ≡ Err place
ReadsFirst (Err NoMemory) cur read = ⊤
