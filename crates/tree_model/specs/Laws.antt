-- What follows from the definitions.
use Rattle.std.specs.Prelude.{◌≡◌, ◌≤◌, ◌+◌, ℕ, List, [], ◌∷◌, ◌++◌, length, Ok}
use Rattle.byte_view.specs.Cursor.{Cursor}
use Rattle.unit_model.specs.Abbrev.{Abbrev}
use Rattle.unit_model.specs.Entries.{Entry, entries, max_entries}
use Rattle.unit_model.specs.Entries as unit_model

-- Entries go down one at a time: the first stands at a depth or less deep, each of the others at most right below the
-- one before it.
abbrev pub GoDownOneByOne : ℕ → List Entry → Type 0
GoDownOneByOne deepest [] = Unit {0}
GoDownOneByOne deepest (entry ∷ rest) = (entry.depth ≤ deepest) × GoDownOneByOne (entry.depth + 1) rest

-- The entries that are read of a unit, behind those of the units before it, go down one at a time from depth 0.
abbrev pub ReadEntriesGoDown : Type 0
ReadEntriesGoDown =
    (of : unit_model.InUnit) (kinds : List Abbrev) (before all : List Entry) (old new : Cursor)
    → length before ≤ max_entries → entries of kinds before old ≡ Ok (all, new)
    → (own : List Entry) × (all ≡ before ++ own) × GoDownOneByOne 0 own
