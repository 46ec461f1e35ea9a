use Rattle.std.proofs.Common.{◌≡◌, map}
use Rattle.std.specs.List.{range_with_len}
use Rattle.profile_merge.specs.Stated.{head_at}
use Rattle.profile_merge.proofs.stated.heads_of.Given as goal

-- There is a head for each function up to here.
abbrev pub invariant-loop-id : goal.invariant-loop-id
invariant-loop-id l = l.heads.items ≡ map (head_at l.sums) (range_with_len 0 l.id)
