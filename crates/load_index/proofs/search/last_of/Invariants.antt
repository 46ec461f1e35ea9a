use Rattle.std.proofs.Common.{◌≡◌, length}
use Rattle.sample_model.specs.Moves.{last_load}
use Rattle.load_index.proofs.search.last_of.Given as goal

abbrev pub invariant-loop-load : goal.invariant-loop-load
invariant-loop-load l = last_load l.rest l.address ≡ last_load l.loads l.address

abbrev pub decreases-loop-load : goal.decreases-loop-load
decreases-loop-load l = length l.rest
