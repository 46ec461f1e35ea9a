use Rattle.std.proofs.Common.{◌∙◌}
use Rattle.dual_check.proofs.PlaceLemmas.{returns_reach}
use Rattle.dual_check.proofs.block.is_exit_arc.Goals as goal

pub returns : goal.returns
returns c =
    let some = rw c.leaving.ensures at c.has_return.ensures in
    some ∙ returns_reach c.args.net.now c.args.arc.now.head
