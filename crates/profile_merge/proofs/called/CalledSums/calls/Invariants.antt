use Rattle.std.proofs.Common.{◌≡◌, map, take}
use Rattle.profile_merge.specs.Stated.{call_of}
use Rattle.profile_merge.proofs.called.CalledSums.calls.Given as goal

-- There are calls for the sums so far.
abbrev pub invariant-loop-key : goal.invariant-loop-key
invariant-loop-key l = l.calls.items ≡ map call_of (take l.key-index l.key-items)
