use Rattle.std.proofs.Common.{rules, leb, leb-true, leb-false}
use Rattle.std.proofs.lemmas.List.Sorted.{IsPartitionPoint-from_clause, IsPartitionedBy-leb}
use Rattle.key_types.proofs.SearchLemmas.{ends-rise-segments}
use Rattle.block_weights.proofs.counted.first_behind.Goals as goal

pub returns-clause-passed : goal.returns-clause-passed
returns-clause-passed c =
    let parted = IsPartitionedBy-leb (λ segment. segment.hi) c.args.segments.now c.args.lo (ends-rise-segments _ c.requires.segments) in
    let point = IsPartitionPoint-from_clause (λ segment. leb segment.hi c.args.lo) _ _ c.partition_point.ensures.partitioned parted (λ a r q k. search rules) in
    λ k d from below. leb-true _ _ (point.0 k d from below)

pub returns-clause-ahead : goal.returns-clause-ahead
returns-clause-ahead c =
    let parted = IsPartitionedBy-leb (λ segment. segment.hi) c.args.segments.now c.args.lo (ends-rise-segments _ c.requires.segments) in
    let point = IsPartitionPoint-from_clause (λ segment. leb segment.hi c.args.lo) _ _ c.partition_point.ensures.partitioned parted (λ a r q k. search rules) in
    λ k d from below. leb-false _ _ (point.1 k d from below)
