use Rattle.std.proofs.Common.{◌≡◌, ◌++◌, take}
use Rattle.span_cover.specs.Owners.{spans_of}
use Rattle.span_cover.proofs.pieces.push_pieces.Given as goal

abbrev pub invariant-loop-lo : goal.invariant-loop-lo
invariant-loop-lo l = l.spans.items ≡ l.initial.spans.items ++ spans_of l.owner (take l.lo-index l.lo-items)
