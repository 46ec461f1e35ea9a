use Rattle.std.proofs.Common.{rules, leb, leb-true, leb-false}
use Rattle.std.proofs.lemmas.List.Sorted.{IsPartitionPoint-from_clause, IsPartitionedBy-leb}
use Rattle.range_counts.proofs.StepLemmas.{rise}
use Rattle.range_counts.proofs.steps.first_above.Goals as goal

pub returns : goal.returns
returns c =
    let parted = IsPartitionedBy-leb (λ step. step.at) c.args.steps.now c.args.address (rise c.args.steps.now c.requires) in
    let point = IsPartitionPoint-from_clause (λ step. leb step.at c.args.address) _ _ c.partition_point.ensures.partitioned parted (λ a r q k. search rules) in
    record {
      within = c.partition_point.ensures.bound;
      passed = λ k d from below. leb-true _ _ (point.0 k d from below);
      ahead = λ k d from below. leb-false _ _ (point.1 k d from below);
    }
