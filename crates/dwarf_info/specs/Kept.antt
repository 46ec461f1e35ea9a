-- What holds of all units that are read.
use Rattle.std.specs.Prelude.{◌≡◌, ◌≤◌, ◌^◌, length, sum_by}
use Rattle.unit_model.specs.Units.{Units}
use Rattle.entry_model.specs.Order.{AreInOrder}

-- Entries stand in the order of the file, at offsets of 64 bits; units and entries are no more than a file can
-- have, and each entry is of one unit.
pub record AreKept (told : Units) : Type 0 where
  pub order : AreInOrder 0 (2 ^ 64) told.entries
  pub few_units : length told.units ≤ 2 ^ 30
  pub few_entries : length told.entries ≤ 2 ^ 24
  pub shared : sum_by (λ unit. unit.count) told.units ≡ length told.entries
