-- What a good binary tells of an address besides its place.
use Rattle.std.specs.Prelude.{ℕ, Bool, List, Option}
use Rattle.std.specs.Option.{option_map}
use Rattle.chain_model.specs.Chains.{function_at}
use Rattle.chain_model.specs.Places.{entry_name, factor_at}
use Rattle.binary_model.specs.Binary.{members_in, tables_in}
use Rattle.binary_model.specs.Places.{names_of, numbered_from, row_in}
use Rattle.key_types.specs.Numbers.{name_of}

-- The function of an address, by its number among the functions and inlined calls.
unfoldable pub function_of_address : List ℕ → ℕ → Option ℕ
function_of_address file address = function_at (numbered_from 0 (members_in file)) address

-- The name of the function that is entered at an address, if a named one is.
unfoldable pub entered_at : List ℕ → ℕ → Option (List ℕ)
entered_at file address =
    option_map (name_of (names_of (members_in file))) (entry_name (numbered_from 0 (members_in file)) address)

-- How often the code at an address was copied, where bases are asked, and else 1.
unfoldable pub factor_of_address : List ℕ → Bool → ℕ → ℕ
factor_of_address file base address =
    factor_at (row_in (tables_in file)) base (numbered_from 0 (members_in file)) address
