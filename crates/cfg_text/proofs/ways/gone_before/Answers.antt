use Rattle.std.proofs.Common.{rules, ltb, ltb-true, ltb-false}
use Rattle.std.proofs.lemmas.List.Sorted.{IsPartitionPoint-from_clause, IsPartitionedBy-ltb}
use Rattle.cfg_text.specs.Draft.{way_by}
use Rattle.cfg_text.proofs.ways.gone_before.Goals as goal

pub returns-clause-before : goal.returns-clause-before
returns-clause-before c =
    let parted = IsPartitionedBy-ltb way_by c.args.edges.now c.args.way c.requires in
    let point = IsPartitionPoint-from_clause (λ edge. ltb (way_by edge) c.args.way) _ _ c.partition_point.ensures.partitioned parted (λ a r q k. search rules) in
    λ k d from below. ltb-true _ _ (point.0 k d from below)

pub returns-clause-others : goal.returns-clause-others
returns-clause-others c =
    let parted = IsPartitionedBy-ltb way_by c.args.edges.now c.args.way c.requires in
    let point = IsPartitionPoint-from_clause (λ edge. ltb (way_by edge) c.args.way) _ _ c.partition_point.ensures.partitioned parted (λ a r q k. search rules) in
    λ k d from below. ltb-false _ _ (point.1 k d from below)
