use Rattle.std.proofs.Common.{◌≡◌, map, filter, take}
use Rattle.profile_lists.specs.Pairs.{pair_of, was_made}
use Rattle.profile_lists.proofs.pairs.pairs_of.Given as goal

abbrev pub invariant-loop-call : goal.invariant-loop-call
invariant-loop-call l = l.pairs.items ≡ map (pair_of l.ranks) (filter was_made (take l.call-index l.calls))
