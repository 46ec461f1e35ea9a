use Rattle.std.proofs.Common.{rules, arith, ltb, ltb-true, ltb-false}
use Rattle.std.proofs.lemmas.List.Sorted.{IsPartitionPoint-from_clause, IsPartitionedBy-ltb}
use Rattle.block_weights.proofs.taken.place_of.Goals as goal
use Rattle.block_weights.specs.Sampled.{rank}

pub returns-clause-below : goal.returns-clause-below
returns-clause-below c =
    let parted = IsPartitionedBy-ltb (λ branch. rank branch.to branch.from) c.args.branches.now c.rank-least.result c.requires in
    let point = IsPartitionPoint-from_clause (λ branch. ltb (rank branch.to branch.from) c.rank-least.result) _ _ c.partition_point.ensures.partitioned parted (λ a r q k. search rules) in
    λ k d from below. omega (arith, c.rank-least.ensures, ltb-true _ _ (point.0 k d from below))

pub returns-clause-from : goal.returns-clause-from
returns-clause-from c =
    let parted = IsPartitionedBy-ltb (λ branch. rank branch.to branch.from) c.args.branches.now c.rank-least.result c.requires in
    let point = IsPartitionPoint-from_clause (λ branch. ltb (rank branch.to branch.from) c.rank-least.result) _ _ c.partition_point.ensures.partitioned parted (λ a r q k. search rules) in
    λ k d from below. omega (arith, c.rank-least.ensures, ltb-false _ _ (point.1 k d from below))
