use Rattle.std.proofs.Common.{◌≡◌, take}
use Rattle.std.specs.Prelude.{flat_map}
use Rattle.block_weights.specs.Passing.{behind_first}
use Rattle.block_weights.proofs.passing.behind_firsts.Given as goal

abbrev pub invariant-loop-range : goal.invariant-loop-range
invariant-loop-range l = l.made.items ≡ flat_map behind_first (take l.range-index l.ran)
