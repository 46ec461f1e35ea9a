-- The entries of a range list as what stands one behind the other in its bytes.
use Rattle.std.specs.Prelude.{◌≡◌, ◌+◌, Bool, List, [], ◌∷◌, length, Option, None, Some, Ok, Err}
use Rattle.refusal.specs.declared.kind.Kind.{Kind}
use Rattle.refusal.specs.declared.place.Place.{Place}
use Rattle.refusal.specs.Place.{in_binary}
use Rattle.byte_view.specs.Cursor.{Cursor}
use Rattle.range_model.specs.Entries.{entry_at}
use Rattle.range_model.specs.Lists.{Placed, Listed, entries_from}

-- Entries stand from one cursor up to another, the first at the one, each further one where the one before ends.
abbrev pub Stand : Bool → Cursor → List Placed → Cursor → Type 0
Stand pairs old [] new = old ≡ new
Stand pairs old (placed ∷ rest) new =
    (placed.at ≡ old.at) × (next : Cursor) × (entry_at pairs old.left ≡ Ok (Some (placed.entry, next.left)))
    × (next.at + length next.left ≡ old.at + length old.left) × Stand pairs next rest new

-- At a cursor stands what ends a list, or nothing that can stand in one, for which the list is broken at its place.
abbrev pub Stops : Bool → Cursor → Option Place → Type 0
Stops pairs cur None = entry_at pairs cur.left ≡ Ok None
Stops pairs cur (Some place) = (kind : Kind) × (entry_at pairs cur.left ≡ Err kind) × (place ≡ in_binary cur.at kind)

-- A list has the entries that stand from its start up to what ends or breaks it.
abbrev pub ListsAreWhole : Type 0
ListsAreWhole =
    (pairs : Bool) (start : Cursor)
    → (stop : Cursor) × Stand pairs start (entries_from pairs start.at start.left).entries stop
    × Stops pairs stop (entries_from pairs start.at start.left).broken

-- What stands so is the list.
abbrev pub WholeListsAreRead : Type 0
WholeListsAreRead =
    (pairs : Bool) (start stop : Cursor) (list : Listed)
    → Stand pairs start list.entries stop → Stops pairs stop list.broken → entries_from pairs start.at start.left ≡ list
