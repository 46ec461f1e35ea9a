use Rattle.std.proofs.Common.{◌≡◌}
use Rattle.profile_model.specs.Steps.{hits_by}
use Rattle.profile_lists.proofs.CountLemmas.{CountsSoFar}
use Rattle.profile_lists.proofs.counts.counts_of.Given as goal

abbrev pub invariant-loop-segment : goal.invariant-loop-segment
invariant-loop-segment l =
    (l.walk.steps ≡ l.hits)
    × CountsSoFar (hits_by l.hits) l.segments l.keys l.segment-index l.walk.from l.counts.items
