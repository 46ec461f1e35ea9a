use Rattle.std.proofs.Common.{drop}
use Rattle.span_cover.proofs.FrameLemmas.{FramedSoFar}
use Rattle.span_cover.proofs.frame.push_framed.Given as goal

abbrev pub invariant-loop-span : goal.invariant-loop-span
invariant-loop-span l =
    FramedSoFar l.initial.spans.items l.frame l.inner l.spans.items l.from (drop l.span-index l.inner)
