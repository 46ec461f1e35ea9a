use Rattle.profile_lists.proofs.RankLemmas.{one_more_place}
use Rattle.profile_lists.proofs.ranks.inverse.Goals as goal

pub loop-rank-preserved : goal.loop-rank-preserved
loop-rank-preserved c =
    one_more_place c.args.ids.now c.loop-rank.ranks.items c.loop-rank.rank c.loop-rank-test.true c.requires.distinct c.requires.within c.loop-rank.invariant
