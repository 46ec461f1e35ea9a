-- Which bytes spell the entries of a unit (DWARF 5, section 7.5.2).
use Rattle.std.specs.Prelude.{◌≡◌, ◌≢◌, ◌≤◌, ℕ, ◌+◌, ◌-◌, Bool, true, not, ◌==◌, if◌then◌else◌, List, [], ◌∷◌, filter, Some}
use Rattle.std.specs.List.{AllByRecursion}
use Rattle.byte_view.specs.Cursor.{Cursor, Reads}
use Rattle.byte_view.specs.Reading.{SpellsUleb}
use Rattle.value_model.specs.Spelling.{Spells}
use Rattle.unit_model.specs.Abbrev.{Attr, Abbrev, find_code}
use Rattle.unit_model.specs.Wanted.{accepts, wanted}
use Rattle.unit_model.specs.Values.{Found, is_unused}
use Rattle.unit_model.specs.Entries.{Entry, InUnit, max_depth}

-- The values of an entry stand one behind the other, in the order of its attributes.
pub data SpellsValues (wide : Bool) : Cursor → Cursor → List Attr → List Found → Type 0 where
  no_value : (cur : Cursor) → SpellsValues wide cur cur [] []
  value_first : (old behind new : Cursor) (attr : Attr) (attrs : List Attr) (found : Found) (others : List Found)
      → Reads (Spells attr.implicit wide attr.form) old behind found.value → found.name ≡ attr.name
      → found.at ≡ old.at → SpellsValues wide behind new attrs others
      → SpellsValues wide old new (attr ∷ attrs) (found ∷ others)

-- Of several values of one name the first.
abbrev pub first_of_each : List Found → List Found
first_of_each [] = []
first_of_each (found ∷ others) = found ∷ filter (λ other. not (other.name == found.name)) (first_of_each others)

-- An attribute is wanted in entries of a tag.
abbrev pub is_wanted : ℕ → Found → Bool
is_wanted tag found = not (is_unused (wanted tag found.name))

-- The wanted attributes among the values of an entry.
abbrev pub wanted_among : ℕ → List Found → List Found
wanted_among tag all = first_of_each (filter (is_wanted tag) all)

-- A value is of a class that its attribute can have.
abbrev pub IsAccepted : ℕ → Found → Type 0
IsAccepted tag found = accepts (wanted tag found.name) found.value ≡ true

-- An entry is spelled by the code of its abbreviation and its values.
pub record SpellsEntry (of : InUnit) (kinds : List Abbrev) (depth : ℕ) (old new : Cursor) (kind : Abbrev)
    (entry : Entry) : Type 0 where
  pub behind_code : Cursor
  pub all : List Found
  pub code : Reads SpellsUleb old behind_code kind.code
  pub some : kind.code ≢ 0
  pub known : find_code kinds kind.code ≡ Some kind
  pub values : SpellsValues of.wide behind_code new kind.attrs all
  pub accepted : AllByRecursion (IsAccepted kind.tag) all
  pub told : entry
      ≡ record { at = old.at; depth = depth; tag = kind.tag; unit = of.unit; found = wanted_among kind.tag all }

-- The entries of a unit stand one behind the other up to its end, the first of them at this depth. Behind an entry
-- with children the next stands deeper, and the code 0 closes a level.
pub data SpellsEntries (of : InUnit) (kinds : List Abbrev) : ℕ → Cursor → Cursor → List Entry → Type 0 where
  no_entry : (depth : ℕ) (cur : Cursor) → cur.left ≡ [] → SpellsEntries of kinds depth cur cur []
  level_closed : (depth : ℕ) (old behind new : Cursor) (entries : List Entry) → Reads SpellsUleb old behind 0
      → SpellsEntries of kinds (depth - 1) behind new entries → SpellsEntries of kinds depth old new entries
  entry_first : (depth : ℕ) (old behind new : Cursor) (kind : Abbrev) (entry : Entry) (entries : List Entry)
      → SpellsEntry of kinds depth old behind kind entry
      → SpellsEntries of kinds (if kind.children then depth + 1 else depth) behind new entries
      → SpellsEntries of kinds depth old new (entry ∷ entries)

-- No entry stands too deep.
abbrev pub AreShallow : List Entry → Type 0
AreShallow entries = AllByRecursion (λ entry. entry.depth ≤ max_depth) entries
