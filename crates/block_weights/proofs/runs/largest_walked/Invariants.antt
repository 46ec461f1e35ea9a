use Rattle.std.proofs.Common.{◌≡◌}
use Rattle.block_weights.specs.Counts.{counts_of}
use Rattle.block_weights.specs.Largest.{largest_in}
use Rattle.block_weights.proofs.runs.largest_walked.Given as goal

abbrev pub invariant-loop-place : goal.invariant-loop-place
invariant-loop-place l = l.largest ≡ largest_in (counts_of l.counts l.segments) l.first l.place
