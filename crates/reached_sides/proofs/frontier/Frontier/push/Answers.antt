use Rattle.std.proofs.Common.{arith, map}
use Rattle.std.proofs.lemmas.List.Sorted.{IsPermutation-append_left}
use Rattle.std.specs.BinaryHeap.{heap_items}
use Rattle.reached_sides.specs.Nearness.{by_distance}
use Rattle.reached_sides.proofs.NearnessLemmas.{pushed_far}
use Rattle.reached_sides.proofs.frontier.Frontier.push.Goals as goal

pub returns-then-branch : goal.returns-then-branch
returns-then-branch c =
    rw (← c.self.view_is)
    (IsPermutation-append_left (map by_distance (heap_items c.self.inside.heap)) _ _ (c.in_ok-push.ensures.added c.if-branch.true))

pub returns : goal.returns
returns c =
    let same = c.in_ok-push.ensures.not_added c.if-branch.false in
    rw (← c.self.view_is, same)
    (pushed_far c.self.inside.near c.args.distance c.args.side _ _ (omega (arith, c.ranges.distance.fits)) c.in_ok-push-2.ensures.permutation)
