-- What reading units gives.
use Rattle.std.specs.Prelude.{◌≡◌, ℕ, List, ◌≤◌, ◌+◌, ⊤, [], ◌∷◌, ◌++◌, length, Result, Ok, Err}
use Rattle.byte_view.specs.Cursor.{Cursor}
use Rattle.refusal.specs.declared.place.Stop.{Stop}
use Rattle.refusal.specs.declared.place.Stop.TheVariants.{Refused, NoMemory}
use Rattle.placed_view.specs.Reader.{Read, Reader, ◌>>=◌, gives}
use Rattle.unit_model.specs.Abbrev.{Abbrev}
use Rattle.unit_model.specs.Entries.{entries}
use Rattle.unit_model.specs.Units as model
use Rattle.dwarf_info.specs.Entries.{all_of, IsWhole}
use Rattle.dwarf_info.specs.declared.rows.UnitsRead.{UnitsRead}
use Rattle.dwarf_info.specs.declared.units.Extent.{Extent}

-- The units in memory.
abbrev pub units_of : UnitsRead → model.Units
units_of so_far = record { units = so_far.units.items; entries = all_of so_far.entries; skipped = so_far.skipped.items }

-- Where a unit stands, as the model says it.
abbrev pub extent_of : Extent → model.Extent
extent_of extent = record { at = extent.at; end = extent.end; wide = extent.shape.wide }

-- A unit behind its header, whose table of abbreviations is this one.
abbrev pub unit_by_table : model.Extent → ℕ → List Abbrev → model.Units → Reader model.Units
unit_by_table extent version table before = do
  all ← entries (record { unit = length before.units; wide = extent.wide }) table before.entries
  gives (model.with_unit extent version all before)

-- A unit is read or passed over; at most one more is there then.
pub record IsRead (old new : UnitsRead) (read : Read model.Units) : Type 0 where
  pub whole : IsWhole new.entries
  pub one_more : length new.units.items ≤ length old.units.items + 1
  pub cur : Cursor
  pub is : read ≡ Ok (units_of new, cur)

abbrev pub ReadsUnit : Result (Unit {0}) Stop → UnitsRead → UnitsRead → Read model.Units → Type 0
ReadsUnit (Ok done) old new read = IsRead old new read
ReadsUnit (Err (Refused place)) old new read = read ≡ Err place
ReadsUnit (Err NoMemory) old new read = ⊤

-- The same, with the cursor behind it.
pub record IsReadTo (old new : UnitsRead) (cur : Cursor) (read : Read model.Units) : Type 0 where
  pub whole : IsWhole new.entries
  pub one_more : length new.units.items ≤ length old.units.items + 1
  pub is : read ≡ Ok (units_of new, cur)

abbrev pub ReadsNext : Result (Unit {0}) Stop → UnitsRead → UnitsRead → Cursor → Read model.Units → Type 0
ReadsNext (Ok done) old new cur read = IsReadTo old new cur read
ReadsNext (Err (Refused place)) old new cur read = read ≡ Err place
ReadsNext (Err NoMemory) old new cur read = ⊤

-- A unit more is passed over, and nothing else has changed.
pub record SkipsUnit (old new : UnitsRead) (extent : Extent) : Type 0 where
  pub units : new.units.items ≡ old.units.items
  pub entries : new.entries ≡ old.entries
  pub skipped : new.skipped.items ≡ old.skipped.items ++ (extent.at, extent.end) ∷ []
