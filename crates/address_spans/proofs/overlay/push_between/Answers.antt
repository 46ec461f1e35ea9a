use Rattle.std.proofs.Common.{get_or, refl, add-one}
use Rattle.address_spans.specs.declared.span.Span.{Span}
use Rattle.address_spans.proofs.OverlayLemmas.{pushed-end, pushed-more, pushed-cut, left-at, left-none, ended-more}
use Rattle.address_spans.proofs.overlay.push_between.Goals as goal

-- what a place past the end of a slice reads as
none : Span
none = record { lo = 0; hi = 0; owner = 0 }

pub returns-then-span-to-clause-pushed : goal.returns-then-span-to-clause-pushed
unfolding none
returns-then-span-to-clause-pushed c =
    pushed-end _ _ _ _ _ _ _ (get_or c.args.spans.now c.loop-i.i none) none c.requires c.loop-i-test.true refl c.if-span-to.true c.loop-i.invariant.0

pub returns-then-span-to-clause-left : goal.returns-then-span-to-clause-left
returns-then-span-to-clause-left c = left-at _ _ _ c.loop-i.auto.i-end c.loop-i.invariant.1

pub returns-then-span-to-2-clause-pushed : goal.returns-then-span-to-2-clause-pushed
unfolding none
returns-then-span-to-2-clause-pushed c =
    let x = get_or c.args.spans.now c.loop-i.i none in
    pushed-cut _ _ _ _ _ _ _ x none c.requires c.loop-i-test.true refl c.if-span-to-2.true
    (pushed-more _ _ _ _ _ _ _ x none c.loop-i-test.true refl c.loop-i.invariant.0 c.in_ok-push_clipped.ensures)

pub returns-then-span-to-2-clause-left : goal.returns-then-span-to-2-clause-left
returns-then-span-to-2-clause-left c = left-at _ _ _ c.loop-i.auto.i-end c.loop-i.invariant.1

pub loop-i-preserved : goal.loop-i-preserved
unfolding none
loop-i-preserved c =
    let x = get_or c.args.spans.now c.loop-i.i none in
    rw add-one (
      pushed-more _ _ _ _ _ _ _ x none c.loop-i-test.true refl c.loop-i.invariant.0 c.in_ok-push_clipped.ensures,
      ended-more _ _ _ x none c.loop-i-test.true refl c.loop-i.invariant.1 c.if-span-to-2.false,
    )

pub returns-clause-left : goal.returns-clause-left
returns-clause-left c = left-none _ _ _ c.loop-i-test.false c.loop-i.invariant.1
