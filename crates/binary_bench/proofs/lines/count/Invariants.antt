use Rattle.std.proofs.Common.{◌-◌}
use Rattle.binary_bench.proofs.lines.count.Given as goal

abbrev pub decreases-loop-at : goal.decreases-loop-at
decreases-loop-at l = l.end - l.at
