use Rattle.std.proofs.Common.{arith, get_or, refl}
use Rattle.key_types.specs.declared.places.Seg.{Seg}
use Rattle.line_lift.proofs.KeyLemmas.{KeysSoFar-all, KeysSoFar-more, key_low, segment_filled}
use Rattle.line_lift.proofs.held.held_counts.Goals as goal

-- what a place past the end of a slice reads as
none : Seg
none = record { lo = 0; hi = 0; key = record { 0 = 0 }; factor = 0 }

pub largest_over-largest-requires-clause-filled : goal.largest_over-largest-requires-clause-filled
unfolding none
largest_over-largest-requires-clause-filled c = segment_filled c.args.segments.now c.requires.segments c.loop-segment.segment-index none c.loop-segment-test.true

pub raise-requires : goal.raise-requires
unfolding none
raise-requires c = omega (arith, c.loop-segment.invariant.len, key_low c.args.keys c.args.segments.now c.requires.known c.loop-segment.segment-index none c.loop-segment-test.true)

pub loop-segment-preserved : goal.loop-segment-preserved
unfolding none
loop-segment-preserved c =
    rw c.raise.ensures
    (KeysSoFar-more c.args.segments.now _ c.args.keys c.loop-segment.segment-index c.loop-segment.held.items (get_or c.args.segments.now c.loop-segment.segment-index none) none c.largest_over-largest.result
    c.loop-segment-test.true refl (key_low c.args.keys c.args.segments.now c.requires.known c.loop-segment.segment-index none c.loop-segment-test.true)
    c.largest_over-largest.ensures c.loop-segment.invariant)

pub returns-clause-largest : goal.returns-clause-largest
returns-clause-largest c = λ key low. KeysSoFar-all _ _ _ _ _ c.requires.segments c.loop-segment-test.false c.loop-segment.invariant key low
