use Rattle.std.proofs.Common.{sym, arith}
use Rattle.profile_merge.proofs.HotLemmas.{least_hot_found, least_hot_end}
use Rattle.profile_merge.proofs.hot.least_hot.Goals as goal

pub returns-then-sum-share : goal.returns-then-sum-share
returns-then-sum-share c =
    sym (least_hot_found c.args.counts.now c.loop-count.count-index _ c.args.cutoff c.args.total c.share_of-share.result c.loop-count.sum c.requires.down c.requires.total c.share_of-share.ensures
    (omega arith) c.loop-count.invariant.is c.loop-count.invariant.short (omega arith))

pub returns : goal.returns
returns c =
    sym (least_hot_end c.args.counts.now c.loop-count.count-index c.args.cutoff c.args.total c.share_of-share.result c.loop-count.sum c.requires.total c.requires.cutoff c.share_of-share.ensures
    (omega arith) c.loop-count.invariant.is c.loop-count.invariant.short)
