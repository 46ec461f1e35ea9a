-- What rows of branches and ranges tell of edges.
use Rattle.std.specs.Prelude.{Bool, List, Option, None, Some, if◌then◌else◌}
use Rattle.sample_model.specs.declared.pair.Pair.{Pair}
use Rattle.profile_model.specs.declared.ran_range.RanRange.{RanRange}
use Rattle.weight_model.specs.Edges.{passed, taken}
use Rattle.repair_model.specs.Made.{EdgeTold}

-- What branches and ranges that ran tell of edges, where their weights are asked for.
abbrev pub edges_by : Bool → List Pair → List RanRange → Option EdgeTold
edges_by asked branches ran =
    if asked then Some (record { taken = taken branches; passed = passed ran }) else None
