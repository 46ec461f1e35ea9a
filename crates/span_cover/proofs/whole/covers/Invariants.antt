use Rattle.span_cover.proofs.AskedLemmas.{CoversSoFar}
use Rattle.span_cover.proofs.whole.covers.Given as goal

abbrev pub invariant-loop-number : goal.invariant-loop-number
invariant-loop-number l = CoversSoFar l.marks l.members l.spans.items l.number
