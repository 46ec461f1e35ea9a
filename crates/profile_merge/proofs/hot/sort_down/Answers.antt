use Rattle.std.proofs.Common.{sym, subst}
use Rattle.std.proofs.lemmas.List.Sorted.{IsPermutation-trans}
use Rattle.profile_merge.proofs.HotLemmas.{descend_reversed}
use Rattle.profile_merge.specs.Hot.{Descend}
use Rattle.profile_merge.proofs.hot.sort_down.Goals as goal

pub returns-clause-same : goal.returns-clause-same
returns-clause-same c = IsPermutation-trans _ _ _ c.sort.ensures.permutation c.reverse.ensures.permutation

pub returns-clause-down : goal.returns-clause-down
returns-clause-down c = subst Descend (sym c.reverse.ensures.items) (descend_reversed c.sort.new.self.items c.in_ok-sort.ensures.sorted)
