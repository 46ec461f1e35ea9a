use Rattle.std.proofs.Common.{◌≡◌, ◌+◌, max, arith, ap, refl, sym, ◌∙◌}
use Rattle.key_types.specs.declared.places.Seg.{Seg}
use Rattle.block_weights.specs.Counts.{counts_of}
use Rattle.block_weights.specs.Largest.{largest_in}
use Rattle.block_weights.proofs.LargestLemmas.{largest-last, largest-none}
use Rattle.block_weights.proofs.WeightLemmas.{value_at}
use Rattle.block_weights.proofs.runs.largest_walked.Goals as goal

-- what a place past the end of a slice reads as
none : Seg
none = record { lo = 0; hi = 0; key = record { 0 = 0 }; factor = 0 }

pub loop-place-init : goal.loop-place-init
loop-place-init c = sym (largest-none (counts_of c.args.counts.now c.args.segments.now) c.args.first c.args.first (omega arith))

pub loop-place-preserved : goal.loop-place-preserved
unfolding none
loop-place-preserved c =
    let counts = c.args.counts.now in
    let segments = c.args.segments.now in
    let place = c.loop-place.place in
    let last = largest-last (counts_of counts segments) c.args.first place (place + 1) refl (omega arith) in
    let here = value_at counts segments place none (omega arith) in
    let larger : c.max-largest.result ≡ max c.loop-place.largest c.count_of.result = c.max-largest.ensures in
    omega (arith, last, here, larger, c.count_of.ensures)

pub returns : goal.returns
returns c =
    let end : c.loop-place.place ≡ c.args.end = omega arith in
    c.loop-place.invariant ∙ ap (largest_in (counts_of c.args.counts.now c.args.segments.now) c.args.first) end
