use Rattle.std.proofs.Common.{◌≤◌, ◌<◌, ◌*◌, All, length, sum_by}
use Rattle.profile_bench.proofs.tree.made_heads.Given as goal

abbrev pub invariant-loop-name : goal.invariant-loop-name
invariant-loop-name l =
    All (λ head. head.name.0 < length l.names) l.heads.items × (sum_by (λ head. head.times) l.heads.items ≤ 3 * l.name)
