use Rattle.std.proofs.Common.{◌≡◌, ◌∙◌, map, arith}
use Rattle.std.proofs.lemmas.List.Sorted.{IsPermutation-append_left}
use Rattle.std.specs.BinaryHeap.{heap_items}
use Rattle.reached_sides.specs.Nearness.{by_distance}
use Rattle.reached_sides.proofs.NearnessLemmas.{popped_far, none_nearer, none_nearer_than_first}
use Rattle.reached_sides.proofs.frontier.Frontier.pop.Goals as goal

pub returns-in-Some-clause-taken : goal.returns-in-Some-clause-taken
returns-in-Some-clause-taken c =
    rw (← c.self.view_is)
    (IsPermutation-append_left (map by_distance (heap_items c.self.inside.heap)) _ _ c.in-Some.ensures.taken)

pub returns-in-Some-clause-nearest : goal.returns-in-Some-clause-nearest
returns-in-Some-clause-nearest c =
    none_nearer c.in-Some.nearest.0 c.least_distance.result _ _ c.in-Some.ensures.within c.in-Some.ensures.nearest c.least_distance.ensures.least

pub returns-clause-taken : goal.returns-clause-taken
returns-clause-taken c =
    let near = c.begin_at.ensures ∙ c.in_default.ensures.unchanged in
    let distance = c.distance_of-distance.ensures in
    rw (← c.self.view_is, near, distance) (popped_far c.self.inside.near c.in_ok-first.first _ _ c.in_ok-first.ensures.permutation)

pub returns-clause-nearest : goal.returns-clause-nearest
returns-clause-nearest c =
    let first = c.in_ok-first.first in
    let top = c.in_ok-first.ensures.top in
    let distance = c.distance_of-distance.ensures in
    let limit = rw (← top) at (c.least_distance.ensures.first (omega (arith, c.in_ok-first.ensures.len)) first) in
    let same : c.distance_of-distance.result ≡ c.least_distance.result = omega (arith, distance, limit) in
    let beyond = c.in_default.ensures.beyond in
    none_nearer_than_first first c.distance_of-distance.result _ _ distance
    (rw (c.begin_at.ensures, same) (λ k d inside. omega (arith, beyond k d inside))) (c.in_ok-first.ensures.below_top c.self.invariant)
