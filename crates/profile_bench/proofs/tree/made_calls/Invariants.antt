use Rattle.std.proofs.Common.{◌≤◌, ◌*◌, All, length, sum_by}
use Rattle.profile_tree.specs.Known.{IsGiven}
use Rattle.profile_bench.proofs.tree.made_calls.Given as goal

abbrev pub invariant-loop-key : goal.invariant-loop-key
invariant-loop-key l =
    All (IsGiven (length l.keys) (length l.names)) l.calls.items × (sum_by (λ call. call.times) l.calls.items ≤ 3 * l.key)
