use Rattle.std.proofs.Common.{◌≡◌, ◌-◌, ◌^◌, suc, drop, get_or, subst, sym, ap, ◌∙◌, drop-cons, add-one, List, ◌∷◌, ◌++◌}
use Rattle.address_spans.specs.declared.span.Span.{Span}
use Rattle.address_spans.specs.Overlay.{overlaid}
use Rattle.address_spans.specs.Spans.{AreBetween}
use Rattle.address_spans.proofs.OverlayLemmas.{left-disjoint, overlay-step}
use Rattle.address_spans.proofs.overlay.overlay.Goals as goal

-- what a place past the end of a slice reads as
none : Span
none = record { lo = 0; hi = 0; owner = 0 }

pub loop-span-preserved : goal.loop-span-preserved
unfolding none
loop-span-preserved c =
    let above = c.args.above.now in
    let i = c.loop-span.span-index in
    let first : drop i above ≡ get_or above i none ∷ drop (suc i) above = drop-cons above i none c.loop-span-test.true in
    let between = subst (λ (xs : List Span). AreBetween c.loop-span.from (2 ^ 64 - 1) xs) first c.loop-span.invariant.1 in
    let so_far = ap (λ (xs : List Span). c.loop-span.out.items ++ overlaid c.loop-span.from xs c.loop-span.left.now) (sym first) ∙ c.loop-span.invariant.2 in
    rw add-one (
      left-disjoint _ _ _ c.in_ok-left.ensures.left c.loop-span.invariant.0,
      between.2,
      rw c.in_ok-push.ensures.items
          (overlay-step _ _ _ _ _ _ _ _ _ between c.in_ok-left.ensures.left so_far c.in_ok-left.ensures.pushed),
    )
