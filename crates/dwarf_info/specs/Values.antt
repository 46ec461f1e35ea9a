-- What reading the values of an entry gives.
use Rattle.std.specs.Prelude.{◌≡◌, ℕ, ◌≤◌, Bool, ◌==◌, if◌then◌else◌, List, ◌∷◌, [], ◌++◌, length, take, drop, Result, Ok, Err, ⊤}
use Rattle.std.specs.List.{list_any}
use Rattle.byte_view.specs.Cursor.{Cursor}
use Rattle.refusal.specs.declared.place.Stop.{Stop}
use Rattle.refusal.specs.declared.place.Stop.TheVariants.{Refused, NoMemory}
use Rattle.placed_view.specs.Reader.{Read}
use Rattle.unit_model.specs.Values.{Found}

-- An attribute of a name stands among others.
abbrev pub has_name : List Found → ℕ → Bool
has_name found name = list_any (λ other. other.name == name) found

-- An attribute stands behind the others, unless one of its name stands among those of its entry, which begin at
-- `first`.
abbrev pub AddsFound : ℕ → List Found → List Found → Found → Type 0
AddsFound first old new more = new ≡ (if has_name (drop first old) more.name then old else old ++ more ∷ [])

-- The attributes from `first` on are those that are read, and those before are as they were.
pub record IsFound (first : ℕ) (old new : List Found) (cur : Cursor) (read : Read (List Found)) : Type 0 where
  pub within : first ≤ length new
  pub kept : take first new ≡ take first old
  pub own : read ≡ Ok (drop first new, cur)

abbrev pub ReadsFound : ℕ → Result (Unit {0}) Stop → List Found → List Found → Cursor → Read (List Found) → Type 0
ReadsFound first (Ok done) old new cur read = IsFound first old new cur read
ReadsFound first (Err (Refused place)) old new cur read = read ≡ Err place
ReadsFound first (Err NoMemory) old new cur read = ⊤

-- The attributes that are read stand behind the others.
abbrev pub ReadsValues : Result (Unit {0}) Stop → List Found → List Found → Cursor → Read (List Found) → Type 0
ReadsValues (Ok done) old new cur read = (own : List Found) × (new ≡ old ++ own) × (read ≡ Ok (own, cur))
ReadsValues (Err (Refused place)) old new cur read = read ≡ Err place
ReadsValues (Err NoMemory) old new cur read = ⊤
