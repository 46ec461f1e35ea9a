use Rattle.std.proofs.Common.{◌≡◌, ◌++◌, drop}
use Rattle.span_cover.specs.Stretches.{joined, joined_on}
use Rattle.span_cover.proofs.join.joined.Given as goal

abbrev pub invariant-loop-span : goal.invariant-loop-span
invariant-loop-span l = l.made.items ++ joined_on l.last (drop l.span-index l.rest) ≡ joined l.spans
