-- What a table tells of an address, and where that changes.
use Rattle.std.specs.Prelude.{◌≡◌, ◌⊎◌, ℕ, ◌<◌, ◌≤◌, List, Contains, Option, None, length}
use Rattle.std.specs.List.{flat_map}
use Rattle.std.specs.Option.{option_map}
use Rattle.std.specs.List.Sorted.{IsStrictlyIncreasing}
use Rattle.line_model.specs.declared.row.Row.{Row}
use Rattle.line_model.specs.Rows.{Sequence, addresses_of, row_among}
use Rattle.row_table.specs.declared.row_data.RowData.{RowData}

-- Line and discriminator of a row.
abbrev pub data_of : Row → RowData
data_of row = record { line = row.line; disc = row.disc }

-- What these sequences tell of an address.
abbrev pub told : List Sequence → ℕ → Option RowData
told sequences address = option_map data_of (row_among sequences address)

-- How many rows sequences have, each with the row that ends it.
abbrev pub row_count : List Sequence → ℕ
row_count sequences = length (flat_map addresses_of sequences)

-- No address of a list is above `a` and at most `b`.
abbrev pub NoneBetween : ℕ → ℕ → List ℕ → Type 0
NoneBetween a b cuts = (cut : ℕ) → Contains cuts cut → (cut ≤ a) ⊎ (b < cut)

-- Ascending addresses between which an answer does not change. There is none before the first and from the last on.
pub record AreCuts {X : Type 0} (answer : ℕ → Option X) (cuts : List ℕ) : Type 0 where
  pub ascending : IsStrictlyIncreasing cuts
  pub same : (a b : ℕ) → a ≤ b → NoneBetween a b cuts → answer a ≡ answer b
  pub before : (a : ℕ) → ((cut : ℕ) → Contains cuts cut → a < cut) → answer a ≡ None
  pub behind : (a : ℕ) → ((cut : ℕ) → Contains cuts cut → cut ≤ a) → answer a ≡ None
