use Rattle.std.proofs.Common.{◌≡◌, ◌++◌, drop}
use Rattle.span_cover.specs.Stretches.{numbered}
use Rattle.span_cover.proofs.number.numbered.Given as goal

abbrev pub invariant-loop-owner : goal.invariant-loop-owner
invariant-loop-owner l = l.made.items ++ numbered l.owner (drop l.owner l.spans) ≡ numbered 0 l.spans
