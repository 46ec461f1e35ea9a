use Rattle.std.proofs.Common.{◌-◌}
use Rattle.block_weights.proofs.runs.+largest_node.Given as goal

abbrev pub decreases-largest_node : goal.decreases-largest_node
decreases-largest_node l = l.end - l.first
