use Rattle.std.proofs.Common.{◌≡◌, length, map, take}
use Rattle.line_lift.specs.Lift.{repaired}
use Rattle.line_lift.specs.Spans.{counted, span_of}
use Rattle.line_lift.proofs.spans.spans_of.Given as goal

abbrev pub invariant-loop-fun : goal.invariant-loop-fun
invariant-loop-fun l = l.spans.items ≡ map span_of (counted (take (length l.yielded) (repaired l.fn.funs l.fn.repairs)))
