-- What samples of edges tell of weights.
use Rattle.std.specs.Prelude.{Option}
use Rattle.std.specs.Borrow.{Bor}
use Rattle.std.specs.Option.{option_map}
use Rattle.profile_model.specs.Steps.{hits_by}
use Rattle.block_weights.specs.Sampled.{Sampled}
use Rattle.weight_model.specs.Edges.{taken}
use Rattle.repair_model.specs.Made.{EdgeTold}

-- What samples of edges tell, if they are given.
abbrev pub edges_told : Option (Bor Sampled) → Option EdgeTold
edges_told edges = option_map
    (λ samples. record { taken = taken samples.now.branches; passed = hits_by samples.now.passing }) edges
