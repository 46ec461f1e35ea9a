use Rattle.std.proofs.Common.{◌≡◌, ◌++◌, map, take}
use Rattle.row_table.proofs.cuts.push_addresses.Given as goal

abbrev pub invariant-loop-row : goal.invariant-loop-row
invariant-loop-row l =
    l.addresses.items ≡ l.initial.addresses.items ++ map (λ row. row.address) (take l.row-index l.sequence.rows)
