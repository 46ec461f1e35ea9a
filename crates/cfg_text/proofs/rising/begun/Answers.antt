use Rattle.std.proofs.Common.{rules, ltb, ltb-true, ltb-false}
use Rattle.std.proofs.lemmas.List.Sorted.{IsPartitionPoint-from_clause, IsPartitionedBy-ltb}
use Rattle.cfg_text.proofs.RisingLemmas.{rises}
use Rattle.cfg_text.proofs.rising.begun.Goals as goal

pub returns-clause-begun : goal.returns-clause-begun
returns-clause-begun c =
    let parted = IsPartitionedBy-ltb (λ block. block.lo) c.args.blocks.now c.args.hi (rises 0 _ c.requires) in
    let point = IsPartitionPoint-from_clause (λ block. ltb block.lo c.args.hi) _ _ c.partition_point.ensures.partitioned parted (λ a r q k. search rules) in
    λ k d from below. ltb-true _ _ (point.0 k d from below)

pub returns-clause-others : goal.returns-clause-others
returns-clause-others c =
    let parted = IsPartitionedBy-ltb (λ block. block.lo) c.args.blocks.now c.args.hi (rises 0 _ c.requires) in
    let point = IsPartitionPoint-from_clause (λ block. ltb block.lo c.args.hi) _ _ c.partition_point.ensures.partitioned parted (λ a r q k. search rules) in
    λ k d from below. ltb-false _ _ (point.1 k d from below)
