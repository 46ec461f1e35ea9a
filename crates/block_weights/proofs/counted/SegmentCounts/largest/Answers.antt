use Rattle.std.proofs.Common.{◌≡◌, ◌≤◌, ◌+◌, ◌/◌, ℕ, List, max, arith, ap, length, ◌∙◌}
use Rattle.block_weights.specs.Counts.{Counted, counts_of}
use Rattle.block_weights.specs.Largest.{largest_in}
use Rattle.block_weights.proofs.LargestLemmas.{largest-three}
use Rattle.block_weights.proofs.counted.SegmentCounts.largest.Goals as goal

pub returns : goal.returns
returns c =
    let segments = c.self.inside.segments.now in
    let values = counts_of c.self.inside.counts.now segments in
    let first = c.args.first in
    let end = c.args.end in
    let within : end ≤ length segments = omega (arith, c.requires.1, ap (λ (s : Counted). length s.segments) c.self.view_is) in
    let three = largest-three c.self.inside.tree.items values (length segments / 16) first end (first / 16 + 1) (end / 16) c.self.invariant.1
    (omega arith) (omega arith) (omega arith) (omega arith) in
    let node = c.largest_node.ensures ∙ ap (λ (t : List ℕ). largest_in t (first / 16 + 1) (end / 16)) c.deref.ensures.value in
    let inner : c.max.result ≡ max c.largest_walked-front.result c.largest_node.result = c.max.ensures in
    let outer : c.max-2.result ≡ max c.max.result c.largest_walked-back.result = c.max-2.ensures in
    let all : c.max-2.result ≡ largest_in values first end =
    omega (arith, three, node, inner, outer, c.largest_walked-front.ensures, c.largest_walked-back.ensures) in
    all ∙ ap (λ (s : Counted). largest_in (counts_of s.counts s.segments) first end) c.self.view_is
