use Rattle.profile_lists.proofs.RankLemmas.{PlacesSoFar}
use Rattle.profile_lists.proofs.ranks.inverse.Given as goal

abbrev pub invariant-loop-rank : goal.invariant-loop-rank
invariant-loop-rank l = PlacesSoFar l.ids l.ranks.items l.rank
