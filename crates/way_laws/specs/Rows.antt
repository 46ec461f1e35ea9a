-- The discriminators of rows.
use Rattle.std.specs.Prelude.{◌<◌, ⊤, ℕ, ◌^◌, List, Option, None, Some}
use Rattle.chain_model.specs.Places.{LineAndDisc}
use Rattle.binary_model.specs.Binary.{tables_in}
use Rattle.binary_model.specs.Places.{row_in}

-- A row, if there is one, has a discriminator of 32 bits.
abbrev pub HasDisc : Option LineAndDisc → Type 0
HasDisc None = ⊤
HasDisc (Some row) = row.1 < 2 ^ 32

-- So has each row of an address.
abbrev pub RowsHaveDiscriminators : Type 0
RowsHaveDiscriminators = (file : List ℕ) (unit address : ℕ) → HasDisc (row_in (tables_in file) unit address)
