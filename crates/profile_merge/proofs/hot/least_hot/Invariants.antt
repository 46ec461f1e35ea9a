use Rattle.std.proofs.Common.{◌≡◌, ◌⊎◌, ◌*◌, ◌^◌, ◌≤◌, ◌<◌, take}
use Rattle.std.specs.Prelude.{sum}
use Rattle.profile_merge.proofs.hot.least_hot.Given as goal

-- What was added up so far does not reach the share.
abbrev pub invariant-loop-count : goal.invariant-loop-count
invariant-loop-count l = record {
  is : l.sum ≡ sum (take l.count-index l.counts);
  small : l.sum ≤ l.count-index * 2 ^ 64;
  short : (l.count-index ≡ 0) ⊎ (l.sum < l.share);
}
