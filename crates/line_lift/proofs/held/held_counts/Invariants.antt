use Rattle.address_spans.specs.Spans.{owner_at}
use Rattle.line_lift.proofs.KeyLemmas.{KeysSoFar}
use Rattle.line_lift.proofs.held.held_counts.Given as goal

abbrev pub invariant-loop-segment : goal.invariant-loop-segment
invariant-loop-segment l = KeysSoFar l.segments (owner_at l.spans) l.keys l.segment-index l.held.items
