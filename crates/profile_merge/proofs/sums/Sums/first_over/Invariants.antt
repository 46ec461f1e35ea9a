use Rattle.std.proofs.Common.{◌≡◌, take, None}
use Rattle.profile_merge.specs.Sums.{first_over}
use Rattle.profile_merge.proofs.sums.Sums.first_over.Given as goal

-- None of the numbers up to here is too large.
abbrev pub invariant-loop-item : goal.invariant-loop-item
invariant-loop-item l = first_over l.weight l.self (take l.item-index l.items) ≡ None
