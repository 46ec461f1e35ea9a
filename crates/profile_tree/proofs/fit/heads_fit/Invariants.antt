use Rattle.std.proofs.Common.{◌<◌, ◌^◌, All, take}
use Rattle.profile_tree.proofs.fit.heads_fit.Given as goal

abbrev pub invariant-loop-head : goal.invariant-loop-head
invariant-loop-head l = All (λ head. head.times < 2 ^ 64) (take l.head-index l.heads)
