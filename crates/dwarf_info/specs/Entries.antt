-- What reading entries gives.
use Rattle.std.specs.Prelude.{◌≡◌, ℕ, ◌≤◌, length, List, Result, Ok, Err, ⊤}
use Rattle.byte_view.specs.Cursor.{Cursor}
use Rattle.refusal.specs.declared.place.Stop.{Stop}
use Rattle.refusal.specs.declared.place.Stop.TheVariants.{Refused, NoMemory}
use Rattle.placed_view.specs.Reader.{Read}
use Rattle.unit_model.specs.Entries.{Entry, SoFar}
use Rattle.dwarf_info.specs.Rows.{entries_of, AreWithin}
use Rattle.dwarf_info.specs.declared.rows.Entries.{Entries}

-- The entries in memory.
abbrev pub all_of : Entries → List Entry
all_of entries = entries_of entries.found entries.rows.items

-- The attributes of each entry are some of the list, and there are no more entries than a file can have.
pub record IsWhole (entries : Entries) : Type 0 where
  pub within : AreWithin entries.found entries.rows.items
  pub few : length entries.rows.items ≤ 16777216

-- Entries are read up to here, and the next one stands at the depth that is answered.
abbrev pub ReadsSoFar : Result ℕ Stop → Entries → Cursor → Read SoFar → Type 0
ReadsSoFar (Ok depth) new cur read = IsWhole new × (read ≡ Ok (record { depth = depth; entries = all_of new }, cur))
ReadsSoFar (Err (Refused place)) new cur read = read ≡ Err place
ReadsSoFar (Err NoMemory) new cur read = ⊤

-- The entries of a unit are read.
abbrev pub ReadsEntries : Result (Unit {0}) Stop → Entries → Read (List Entry) → Type 0
ReadsEntries (Ok done) new read = IsWhole new × ((cur : Cursor) × (read ≡ Ok (all_of new, cur)))
ReadsEntries (Err (Refused place)) new read = read ≡ Err place
ReadsEntries (Err NoMemory) new read = ⊤
