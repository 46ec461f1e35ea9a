use Rattle.std.proofs.lemmas.List.Sorted.{IsPermutation-map}
use Rattle.profile_lists.specs.Told.{told}
use Rattle.profile_lists.proofs.ranks.sort_entries.Goals as goal

pub returns-clause-same : goal.returns-clause-same
returns-clause-same c = IsPermutation-map told _ _ c.sort.ensures.permutation
