use Rattle.std.proofs.Common.{◌<◌, ◌^◌, All, take}
use Rattle.profile_tree.proofs.fit.calls_fit.Given as goal

abbrev pub invariant-loop-call : goal.invariant-loop-call
invariant-loop-call l = All (λ call. call.times < 2 ^ 64) (take l.call-index l.calls)
