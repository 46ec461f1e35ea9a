-- One step of a walk over a range list.
use Rattle.std.specs.Prelude.{◌≡◌, ◌<◌, ◌+◌, ℕ, Bool, List, [], ◌++◌, length, Option, None, Some, Result, Ok, Err}
use Rattle.refusal.specs.declared.place.Place.{Place}
use Rattle.byte_view.specs.Cursor.{Cursor}
use Rattle.range_model.specs.Entries.{Entry}
use Rattle.range_model.specs.Lists.{Resolves, with_entry, entries_from, bad_in_list}
use Rattle.dwarf_ranges.specs.declared.step.ListStep.{ListStep}
use Rattle.dwarf_ranges.specs.Meaning.{IsStep}

-- The cursor passed an entry, of which this is made. The rest of the list stands behind it.
pub record IsNext (resolve : Resolves) (pairs : Bool) (base : ℕ) (old new : Cursor) (step : ListStep) : Type 0 where
  pub entry : Entry
  pub here : entries_from pairs old.at old.left ≡ with_entry old.at entry (entries_from pairs new.at new.left)
  pub shorter : length new.left < length old.left
  pub made : IsStep resolve old.at base entry step
  pub front : List ℕ
  pub parts : old.left ≡ front ++ new.left
  pub moved : new.at ≡ old.at + length front

-- A call took the next entry, or found the end of the list, or the place where the list is bad.
abbrev pub TakesNext : Resolves → Bool → ℕ → Cursor → Cursor → Result (Option ListStep) Place → Type 0
TakesNext resolve pairs base old new (Ok None) =
    entries_from pairs old.at old.left ≡ record { entries = []; broken = None }
TakesNext resolve pairs base old new (Ok (Some step)) = IsNext resolve pairs base old new step
TakesNext resolve pairs base old new (Err place) =
    (count : ℕ) → bad_in_list resolve count (entries_from pairs old.at old.left) ≡ Some place
