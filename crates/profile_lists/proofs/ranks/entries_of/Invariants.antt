use Rattle.std.proofs.Common.{◌≡◌, map}
use Rattle.std.specs.List.{range_with_len}
use Rattle.profile_lists.specs.Ranks.{entry_of}
use Rattle.profile_lists.specs.Told.{told}
use Rattle.profile_lists.proofs.ranks.entries_of.Given as goal

abbrev pub invariant-loop-i : goal.invariant-loop-i
invariant-loop-i l = map told l.entries.items ≡ map (entry_of l.names l.weights) (range_with_len 0 l.i)
