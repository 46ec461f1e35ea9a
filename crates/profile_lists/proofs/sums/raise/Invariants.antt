use Rattle.std.proofs.Common.{◌≡◌, ◌++◌, drop, take}
use Rattle.profile_lists.specs.Rows.{raised}
use Rattle.profile_lists.proofs.sums.raise.Given as goal

abbrev pub invariant-loop-sum : goal.invariant-loop-sum
invariant-loop-sum l = l.sums ≡ raised l.count (take l.sum-index l.initial.sums) ++ drop l.sum-index l.initial.sums
