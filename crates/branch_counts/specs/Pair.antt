-- The order of rows.
use Rattle.std.specs.Ordering.{nat_cmp, ordering_then}
use Rattle.std.specs.declared.cmp.Ordering.{Ordering}
use Rattle.sample_model.specs.declared.pair.Pair.{Pair}

-- Rows go by where they come from, then by where they go to, and last by how often.
abbrev pub pair_cmp : Pair → Pair → Ordering
pair_cmp row other =
    ordering_then (nat_cmp row.from other.from)
    (ordering_then (nat_cmp row.to other.to) (nat_cmp row.times other.times))
