use Rattle.std.proofs.Common.{arith}
use Rattle.std.proofs.lemmas.Bool.{both_ways}
use Rattle.std.proofs.lemmas.List.Sorted.{length_permutation}
use Rattle.path_search.proofs.NextLemmas.{side_within, dropped, taken}
use Rattle.path_search.proofs.next.next_open.Goals as goal

pub is_current-requires : goal.is_current-requires
is_current-requires c = side_within _ _ _ _ _ c.loop-distance.invariant c.in-Some.ensures.taken

pub returns-then-is_current-clause-next : goal.returns-then-is_current-clause-next
returns-then-is_current-clause-next c =
    taken _ _ _ _ _ c.loop-distance.invariant c.in-Some.ensures.taken c.in-Some.ensures.nearest (c.is_current.ensures.0 c.if-is_current.true)

pub loop-distance-smaller : goal.loop-distance-smaller
loop-distance-smaller c = let long = length_permutation _ _ c.in-Some.ensures.taken in omega (arith, long)

pub loop-distance-preserved : goal.loop-distance-preserved
loop-distance-preserved c =
    dropped _ _ _ _ _ c.loop-distance.invariant c.in-Some.ensures.taken
    (λ current. both_ways _ c.if-is_current.false (c.is_current.ensures.1 current))
