use Rattle.std.proofs.Common.{◌∙◌}
use Rattle.flow_network.specs.Flow.{counts_of}
use Rattle.dual_check.proofs.PlaceLemmas.{went_is}
use Rattle.dual_check.proofs.block.went.Goals as goal

pub returns : goal.returns
returns c =
    let sum = rw c.leaving.ensures at c.edge_sum.ensures in
    sum ∙ went_is c.args.net.now (counts_of c.args.flow.now) c.args.arc.now.head c.requires.counted
