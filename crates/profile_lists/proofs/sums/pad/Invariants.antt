use Rattle.std.proofs.Common.{◌≡◌, ◌≤◌, ◌-◌, ◌++◌, length, replicate}
use Rattle.profile_lists.proofs.sums.pad.Given as goal

abbrev pub invariant-loop : goal.invariant-loop
invariant-loop l =
    (l.counter - length l.initial.sums.items ≤ l.len - length l.initial.sums.items)
    × (l.sums.items ≡ l.initial.sums.items ++ replicate (l.counter - length l.initial.sums.items) 0)
