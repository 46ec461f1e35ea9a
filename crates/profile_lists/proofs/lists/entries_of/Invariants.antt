use Rattle.std.proofs.Common.{◌≡◌, map, take}
use Rattle.profile_lists.specs.Lists.{entry_of}
use Rattle.profile_lists.proofs.lists.entries_of.Given as goal

abbrev pub invariant-loop-pair : goal.invariant-loop-pair
invariant-loop-pair l = l.targets.items ≡ map entry_of (take l.pair-index l.pairs)
