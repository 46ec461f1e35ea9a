use Rattle.std.proofs.Common.{◌∙◌}
use Rattle.profile_merge.proofs.TreeLemmas.{heads_more}
use Rattle.profile_merge.proofs.stated.heads_of.Goals as goal

pub loop-id-preserved : goal.loop-id-preserved
loop-id-preserved c = c.in_ok-push.ensures.items ∙ heads_more c.as_slice-sums.result.now c.loop-id.id c.loop-id.heads.items c.loop-id.invariant
