-- What is known of a binary that was read.
use Rattle.std.specs.Prelude.{◌≡◌, ◌<◌, ℕ, Bool, List, length, slice_get, Some}
use Rattle.std.specs.List.{All}
use Rattle.elf_model.specs.Segments.{code_loads}
use Rattle.key_types.specs.declared.key.Key.{Key}
use Rattle.key_types.specs.declared.ids.KeyId.{KeyId}
use Rattle.key_types.specs.declared.places.Where.{Where}
use Rattle.chain_model.specs.declared.member.Member.{Member}
use Rattle.inline_tree.specs.Told.{AreTold}
use Rattle.key_types.specs.Segments.{HaveSegments}
use Rattle.span_cover.specs.Asked.{asks}
use Rattle.context_map.specs.Asked.{AreFunctions, IsMapOver}
use Rattle.context_map.specs.Maps.{rows_of}
use Rattle.binary_model.specs.Addresses.{function_of_address}
use Rattle.profile_model.specs.Ways.{Way}
use Rattle.binary_model.specs.Binary.{members_in, tables_in, units_in}
use Rattle.binary_model.specs.Places.{Place, way_of}
use Rattle.binary_model.specs.Told.{TellsBy}
use Rattle.binary_places.specs.declared.binary.Binary.{Binary}
use Rattle.binary_places.specs.declared.binary.Placed.{Placed}

-- The members are those of the file, whose names have numbers among the names, with their functions; the tables of rows
-- are those of its units, and the segments of code those of its headers; so many units were read and passed over.
pub record IsBinary (file : List ℕ) (base : Bool) (binary : Binary) : Type 0 where
  pub told : AreTold binary.names (members_in file) binary.members.items
  pub tables_are : binary.tables.items ≡ tables_in file
  pub functions : AreFunctions binary.members.items binary.functions
  pub base_is : binary.base ≡ base
  pub loads_are : binary.loads.items ≡ code_loads file
  pub read_are : binary.read ≡ length (units_in file).units
  pub passed_are : binary.passed ≡ length (units_in file).skipped

-- The map is that of the file's members, over the functions that are asked for, and each key has a segment in it.
pub record IsPlaced (file : List ℕ) (base : Bool) (marks : List Bool) (placed : Placed) : Type 0 where
  pub members : List Member
  pub told : AreTold placed.names (members_in file) members
  pub map : IsMapOver marks (rows_of (tables_in file)) base members placed.keys placed.map
  pub used : HaveSegments 0 placed.keys placed.map.segments

-- The place of an address of a file is asked for.
abbrev pub asks_in : List ℕ → List Bool → ℕ → Bool
asks_in file marks address = asks marks (function_of_address file address)

-- All names in a key have numbers.
pub record IsGiven (names : List (List ℕ)) (key : Key) : Type 0 where
  pub root : key.root.0 < length names
  pub calls : All (λ call. call.name.0 < length names) key.calls

-- A key of this number has this way.
pub record IsWay (names : List (List ℕ)) (keys : List Key) (way : Way) (id : KeyId) : Type 0 where
  pub key : Key
  pub at_number : slice_get keys id.0 ≡ Some key
  pub given : IsGiven names key
  pub way_is : way ≡ way_of names key

-- An answer of a map tells a place, a way by a key whose names all have numbers.
abbrev pub TellsNamed : List (List ℕ) → List Key → Place → Where → Type 0
TellsNamed names keys place answer = TellsBy (IsWay names keys) place answer
