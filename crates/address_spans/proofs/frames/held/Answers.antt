use Rattle.std.proofs.Common.{add-one, drop-cons}
use Rattle.std.proofs.lemmas.List.{drop_all}
use Rattle.address_spans.specs.declared.span.Span.{Span}
use Rattle.address_spans.proofs.FrameLemmas.{HeldSoFar-none, HeldSoFar-more, HeldSoFar-all}
use Rattle.address_spans.proofs.frames.held.Goals as goal

-- what a place past the end of a slice reads as
none : Span
none = record { lo = 0; hi = 0; owner = 0 }

pub loop-frame-init : goal.loop-frame-init
loop-frame-init c = HeldSoFar-none _ _ _ c.requires.frames c.requires.inner c.in_ok-out.ensures.items

pub loop-frame-preserved : goal.loop-frame-preserved
unfolding none
loop-frame-preserved c =
    rw add-one
    (HeldSoFar-more _ _ _ _ _ _ _ _ c.loop-frame.invariant (drop-cons c.args.frames.now c.loop-frame.frame-index none c.loop-frame-test.true) c.in_ok-left.ensures.pushed c.in_ok-left.ensures.left)

pub returns : goal.returns
returns c = HeldSoFar-all _ _ _ _ _ c.loop-frame.invariant (drop_all _ _ c.loop-frame-test.false)
