use Rattle.std.proofs.Common.{◌≤◌}
use Rattle.profile_model.specs.Hits.{AreRanges, times_of}
use Rattle.profile_bench.proofs.hits.ranges_of.Given as goal

abbrev pub invariant-loop : goal.invariant-loop
invariant-loop l = AreRanges l.made.items × (times_of l.made.items ≤ l.counter)
