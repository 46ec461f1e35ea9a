use Rattle.std.proofs.Common.{sym}
use Rattle.profile_merge.proofs.HotLemmas.{greatest_first}
use Rattle.profile_merge.proofs.hot.max_of.Goals as goal

pub returns-in-Some : goal.returns-in-Some
returns-in-Some c = greatest_first c.args.counts.now c.in-Some.count.now c.requires (sym c.in-Some.ensures.value)
