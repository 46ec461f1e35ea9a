-- The map of a binary shows the places that the file tells, and its functions are those of the file.
use Rattle.std.proofs.Common.{◌≡◌, ◌∙◌, ℕ, Bool, true, List, Option, None, Some, refl, sym, ap}
use Rattle.std.specs.Prelude.{slice_get, option_and_then}
use Rattle.std.specs.Option.{option_map}
use Rattle.line_model.specs.declared.row.Row.{Row}
use Rattle.line_model.specs.Rows.{Sequence, row_among}
use Rattle.row_table.specs.Told.{data_of, told}
use Rattle.chain_model.specs.Chains.{function_at}
use Rattle.span_cover.specs.Asked.{asks}
use Rattle.span_cover.specs.Stretches as stretches
use Rattle.context_map.specs.Parts.{line_and_disc}
use Rattle.context_map.specs.Maps.{place_told, rows_of}
use Rattle.binary_model.specs.Binary.{members_in, tables_in}
use Rattle.binary_model.specs.Places.{names_of, numbered_from, place_among, place_of_address, row_in}
use Rattle.binary_places.specs.declared.binary.Binary.{Binary}
use Rattle.binary_places.specs.Binary.{IsBinary, asks_in}
use Rattle.binary_places.specs.Laws.{FunctionsAreTold, PlacesAreShown}
use Rattle.binary_places.proofs.FunctionLemmas.{function_same}
use Rattle.binary_places.proofs.NumberLemmas.{are-told}
use Rattle.binary_places.proofs.PlaceLemmas.{shown}

by-row : (row : Option Row) → option_map line_and_disc (option_map data_of row) ≡ option_map (λ row. (row.line, row.disc)) row
by-row None = refl
by-row (Some row) = refl

by-table : (table : Option (List Sequence)) (address : ℕ)
    → option_map line_and_disc (option_and_then (λ table. told table address) table)
    ≡ option_map (λ row. (row.line, row.disc)) (option_and_then (λ table. row_among table address) table)
by-table None address = refl
by-table (Some table) address = by-row (row_among table address)

pub rows-agree : (tables : List (Option (List Sequence))) (unit address : ℕ) → rows_of tables unit address ≡ row_in tables unit address
rows-agree tables unit address = by-table (option_and_then (λ table. table) (slice_get tables unit)) address

pub places_shown : PlacesAreShown
unfolding place_of_address place_among
places_shown file base marks placed is address asked =
    let of_file : asks marks (function_at is.members address) ≡ true = ap (asks marks) (function_same file placed.names is.members is.told address) ∙ asked in
    shown placed.names (names_of (members_in file)) (members_in file) is.members (numbered_from 0 (members_in file)) is.told (are-told (members_in file))
    (rows_of (tables_in file)) (row_in (tables_in file)) (rows-agree (tables_in file)) base placed.keys address (place_told placed.map address) (is.map.place address of_file)

pub functions_told : FunctionsAreTold
functions_told file base binary is address =
    is.functions.function address ∙ function_same file binary.names binary.members.items is.told address

-- What is asked for by the functions of a binary is asked for by the file.
pub asked_of_file : (file : List ℕ) (base : Bool) (binary : Binary) → IsBinary file base binary → (marks : List Bool) (address : ℕ)
    → asks marks (stretches.function_at binary.functions.stretches address) ≡ true → asks_in file marks address ≡ true
asked_of_file file base binary is marks address asked = ap (asks marks) (sym (functions_told file base binary is address)) ∙ asked
