use Rattle.profile_model.specs.Profile.{capped}
use Rattle.profile_tree.specs.Sums.{AreEach, counts_below}
use Rattle.profile_tree.proofs.sums.totals_of.Given as goal

abbrev pub invariant-loop-id : goal.invariant-loop-id
invariant-loop-id l = AreEach l.names (λ name. capped (counts_below l.keys l.counts l.id name)) l.totals.items
