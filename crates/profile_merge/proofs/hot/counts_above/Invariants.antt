use Rattle.std.proofs.Common.{◌≡◌, take}
use Rattle.profile_merge.specs.Hot.{counts_told}
use Rattle.profile_merge.proofs.hot.counts_above.Given as goal

abbrev pub invariant-loop-item : goal.invariant-loop-item
invariant-loop-item l = l.counts.items ≡ counts_told (take l.item-index l.items)
