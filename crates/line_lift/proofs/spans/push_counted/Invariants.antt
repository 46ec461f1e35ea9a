use Rattle.std.proofs.Common.{◌≡◌, ◌++◌, length, map, take, zip}
use Rattle.line_lift.specs.Spans.{span_of}
use Rattle.line_lift.proofs.spans.push_counted.Given as goal

abbrev pub invariant-loop-block : goal.invariant-loop-block
invariant-loop-block l = l.spans.items ≡ l.initial.spans.items ++ map span_of (take (length l.yielded) (zip l.fn.fun.blocks l.fn.flow.blocks))
