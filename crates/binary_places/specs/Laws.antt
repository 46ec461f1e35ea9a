-- What follows from the definitions.
use Rattle.std.specs.Prelude.{◌≡◌, ℕ, Bool, true, List}
use Rattle.span_cover.specs.Stretches.{function_at}
use Rattle.context_map.specs.Maps.{place_told}
use Rattle.binary_model.specs.Addresses.{function_of_address}
use Rattle.binary_model.specs.Places.{place_of_address}
use Rattle.binary_places.specs.declared.binary.Binary.{Binary}
use Rattle.binary_places.specs.declared.binary.Placed.{Placed}
use Rattle.binary_places.specs.Binary.{IsBinary, IsPlaced, TellsNamed, asks_in}

-- The map of a binary shows the place of each address that was asked for, in names.
abbrev pub PlacesAreShown : Type 0
PlacesAreShown =
    (file : List ℕ) (base : Bool) (marks : List Bool) (placed : Placed) → IsPlaced file base marks placed
    → (address : ℕ) → asks_in file marks address ≡ true
    → TellsNamed placed.names placed.keys (place_of_address file base address) (place_told placed.map address)

-- The functions of a binary are those of the file.
abbrev pub FunctionsAreTold : Type 0
FunctionsAreTold =
    (file : List ℕ) (base : Bool) (binary : Binary) → IsBinary file base binary → (address : ℕ)
    → function_at binary.functions.stretches address ≡ function_of_address file address
