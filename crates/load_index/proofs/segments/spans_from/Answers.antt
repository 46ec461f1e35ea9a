use Rattle.std.proofs.Common.{◌++◌, ◌∷◌, [], get_or, refl, ap, ◌∙◌}
use Rattle.address_spans.specs.declared.span.Span.{Span}
use Rattle.load_model.specs.declared.load_segment.LoadSegment.{LoadSegment}
use Rattle.load_index.proofs.OffsetLemmas.{spans_from-turn}
use Rattle.load_index.proofs.segments.spans_from.Goals as goal

-- what a place past the end of a slice reads as
none : LoadSegment
none = record { offset = 0; vaddr = 0; size = 0 }

pub loop-place-preserved : goal.loop-place-preserved
unfolding none
loop-place-preserved c =
    let old = c.loop-place.spans.items in
    let pushed = c.in_ok-push.ensures.items ∙ ap (λ (span : Span). old ++ span ∷ []) c.span_from.ensures.span in
    spans_from-turn c.args.base c.loop-place.place c.args.segments.now (get_or c.args.segments.now c.loop-place.place none) none old _ c.loop-place-test.true refl
    c.loop-place.invariant.0 c.loop-place.invariant.1 c.span_from.ensures.end pushed
