use Rattle.std.proofs.Common.{rules}
use Rattle.std.specs.Prelude.{nat_le}
use Rattle.std.proofs.lemmas.List.Sorted.{IsPartitionPoint-from_clause}
use Rattle.profile_merge.proofs.HotLemmas.{lines_by_point, parted_down}
use Rattle.profile_merge.proofs.hot.lines_from.Goals as goal

pub returns : goal.returns
returns c =
    lines_by_point c.args.counts.now c.args.least c.partition_point.result c.partition_point.ensures.bound
    (IsPartitionPoint-from_clause (λ x. nat_le c.args.least x) _ _ c.partition_point.ensures.partitioned (parted_down c.args.least c.args.counts.now c.requires) (λ a r q k. search rules))
