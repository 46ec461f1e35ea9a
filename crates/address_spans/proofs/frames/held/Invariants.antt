use Rattle.address_spans.proofs.FrameLemmas.{HeldSoFar}
use Rattle.address_spans.proofs.frames.held.Given as goal

abbrev pub invariant-loop-frame : goal.invariant-loop-frame
invariant-loop-frame l = HeldSoFar l.frames l.inner l.frame-index l.left l.out.items
