-- What follows of a binary that was read, for the maker of a profile.
use Rattle.std.specs.Prelude.{◌≡◌, ◌<◌, ℕ, Bool, List, length, Some}
use Rattle.std.specs.List.{All}
use Rattle.key_types.specs.declared.ids.KeyId.{KeyId}
use Rattle.key_types.specs.declared.ids.NameId.{NameId}
use Rattle.key_types.specs.declared.places.Where.TheVariants.{At}
use Rattle.profile_lists.specs.Segments.{AllFit}
use Rattle.profile_tree.specs.Known.{HasNames}
use Rattle.context_map.specs.Maps.{entry_told, place_told}
use Rattle.binary_places.specs.declared.binary.Placed.{Placed}
use Rattle.binary_places.specs.Binary.{IsPlaced}

-- The keys of a map's segments are among the binary's, and their factors are below 4,096.
abbrev pub SegmentsFit : Type 0
SegmentsFit =
    (file : List ℕ) (base : Bool) (marks : List Bool) (placed : Placed) → IsPlaced file base marks placed
    → AllFit (length placed.keys) placed.map.segments

-- All names in the keys of a binary are among its names.
abbrev pub KeysHaveNames : Type 0
KeysHaveNames =
    (file : List ℕ) (base : Bool) (marks : List Bool) (placed : Placed) → IsPlaced file base marks placed
    → All (HasNames (length placed.names)) placed.keys

-- The key of an address is among the keys of the binary.
abbrev pub PlacesAreGiven : Type 0
PlacesAreGiven =
    (file : List ℕ) (base : Bool) (marks : List Bool) (placed : Placed) → IsPlaced file base marks placed
    → (address : ℕ) (id : KeyId) → place_told placed.map address ≡ At id → id.0 < length placed.keys

-- The name of a function that is entered at an address is among the names of the binary.
abbrev pub EntriesAreGiven : Type 0
EntriesAreGiven =
    (file : List ℕ) (base : Bool) (marks : List Bool) (placed : Placed) → IsPlaced file base marks placed
    → (address : ℕ) (name : NameId) → entry_told placed.map address ≡ Some name → name.0 < length placed.names
