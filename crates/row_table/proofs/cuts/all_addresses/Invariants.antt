use Rattle.std.proofs.Common.{◌≡◌, take}
use Rattle.std.specs.List.{flat_map}
use Rattle.line_model.specs.Rows.{addresses_of}
use Rattle.row_table.proofs.cuts.all_addresses.Given as goal

abbrev pub invariant-loop-sequence : goal.invariant-loop-sequence
invariant-loop-sequence l = l.addresses.items ≡ flat_map addresses_of (take l.sequence-index l.sequences)
