use Rattle.std.proofs.Common.{◌≤◌, ◌*◌}
use Rattle.profile_bench.proofs.hits.swept.Given as goal

abbrev pub invariant-loop-segment : goal.invariant-loop-segment
invariant-loop-segment l = l.walk.from ≤ l.segment * 16
