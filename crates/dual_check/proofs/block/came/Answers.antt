use Rattle.std.proofs.Common.{◌∙◌}
use Rattle.flow_network.specs.Flow.{counts_of}
use Rattle.dual_check.proofs.PlaceLemmas.{came_is}
use Rattle.dual_check.proofs.block.came.Goals as goal

pub returns : goal.returns
returns c =
    let sum = rw c.entering.ensures at c.edge_sum.ensures in
    sum ∙ came_is c.args.net.now (counts_of c.args.flow.now) c.args.arc.now.tail c.requires.counted
