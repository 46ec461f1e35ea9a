use Rattle.std.proofs.Common.{rules, sym, leb}
use Rattle.std.proofs.lemmas.List.Sorted.{IsPartitionPoint-from_clause, IsPartitionedBy-leb}
use Rattle.key_types.proofs.SearchLemmas.{ends-rise-segments, first_behind, found, passed, none_left}
use Rattle.key_types.proofs.search.key_at.Goals as goal

pub returns-in-Some : goal.returns-in-Some
returns-in-Some c =
    let parted = IsPartitionedBy-leb (λ segment. segment.hi) c.args.segments.now c.args.address (ends-rise-segments _ c.requires) in
    let point = first_behind _ _ _ (IsPartitionPoint-from_clause (λ segment. leb segment.hi c.args.address) _ _ c.partition_point-at.ensures.partitioned parted (λ a r q k. search rules)) in
    let item = c.in-Some.ensures.lookup in
    sym (found _ _ _ _ _ c.requires item.3.0 item.1 point c.if-segment-address.true)

pub returns-in_default : goal.returns-in_default
returns-in_default c =
    let parted = IsPartitionedBy-leb (λ segment. segment.hi) c.args.segments.now c.args.address (ends-rise-segments _ c.requires) in
    let point = first_behind _ _ _ (IsPartitionPoint-from_clause (λ segment. leb segment.hi c.args.address) _ _ c.partition_point-at.ensures.partitioned parted (λ a r q k. search rules)) in
    let item = c.in-Some.ensures.lookup in
    sym (passed _ _ _ _ _ c.requires item.3.0 item.1 point c.if-segment-address.false)

pub returns-in_default-2 : goal.returns-in_default-2
returns-in_default-2 c =
    let parted = IsPartitionedBy-leb (λ segment. segment.hi) c.args.segments.now c.args.address (ends-rise-segments _ c.requires) in
    let point = first_behind _ _ _ (IsPartitionPoint-from_clause (λ segment. leb segment.hi c.args.address) _ _ c.partition_point-at.ensures.partitioned parted (λ a r q k. search rules)) in
    let none = rw c.in_default.is at c.get.ensures.lookup in
    sym (none_left _ _ _ none.3 point)
