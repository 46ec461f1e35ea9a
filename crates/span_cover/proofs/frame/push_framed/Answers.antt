use Rattle.std.proofs.Common.{◌≡◌, ◌∷◌, ◌<◌, suc, List, arith, subst, drop, drop-cons, get_or, length, add-one}
use Rattle.address_spans.specs.declared.span.Span.{Span}
use Rattle.span_cover.proofs.FrameLemmas.{FramedSoFar, FramedSoFar-more}
use Rattle.span_cover.proofs.frame.push_framed.Goals as goal

pub loop-span-preserved : goal.loop-span-preserved
loop-span-preserved c =
    let inner = c.args.inner.now in
    let i = c.loop-span.span-index in
    let none : Span = record { lo = 0; hi = 0; owner = 0 } in
    let within : i < length inner = omega arith in
    let next : drop i inner ≡ get_or inner i none ∷ drop (suc i) inner = drop-cons inner i none within in
    let so_far = subst (λ (left : List Span). FramedSoFar c.args.spans.now.items c.args.frame.now inner c.loop-span.spans.items c.loop-span.from left) next c.loop-span.invariant in
    rw add-one
    (FramedSoFar-more c.args.spans.now.items c.args.frame.now inner c.loop-span.spans.items _ _ c.loop-span.from _ _ _ _ (get_or inner i none) _ so_far
    c.min.ensures c.max.ensures c.min-in-loop-span.ensures c.max-from.ensures c.in_ok-push_filled.ensures c.in_ok-push_filled-2.ensures)
