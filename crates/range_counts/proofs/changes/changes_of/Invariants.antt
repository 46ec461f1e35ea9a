use Rattle.std.proofs.Common.{◌≡◌, ◌^◌, ◌<◌, take}
use Rattle.std.specs.Prelude.{All, flat_map}
use Rattle.range_counts.specs.Changes.{changes_at}
use Rattle.range_counts.proofs.changes.changes_of.Given as goal

abbrev pub invariant-loop-range : goal.invariant-loop-range
invariant-loop-range l =
    (l.changes.items ≡ flat_map changes_at (take l.range-index l.ranges))
    × All (λ range. range.hi < 2 ^ 64) (take l.range-index l.ranges)
