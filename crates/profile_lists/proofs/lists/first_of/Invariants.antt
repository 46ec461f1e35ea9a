use Rattle.std.proofs.Common.{◌≡◌, ◌≤◌, ◌+◌, ◌-◌, ◌==◌, drop, length}
use Rattle.std.specs.List.{prefix_len}
use Rattle.profile_lists.proofs.lists.first_of.Given as goal

abbrev pub invariant-loop-len : goal.invariant-loop-len
invariant-loop-len l =
    (l.len ≤ length l.targets) × (prefix_len (λ t. t.key == l.key) l.targets ≡ l.len + prefix_len (λ t. t.key == l.key) (drop l.len l.targets))

abbrev pub decreases-loop-len : goal.decreases-loop-len
decreases-loop-len l = length l.targets - l.len
