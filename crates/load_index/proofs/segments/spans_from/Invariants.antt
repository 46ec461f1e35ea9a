use Rattle.std.proofs.Common.{◌≡◌, take}
use Rattle.load_index.specs.Offsets.{EndInTime, spans_from}
use Rattle.load_index.proofs.segments.spans_from.Given as goal

abbrev pub invariant-loop-place : goal.invariant-loop-place
invariant-loop-place l =
    (l.spans.items ≡ spans_from l.base 0 (take l.place l.segments))
    × EndInTime (take l.place l.segments)
