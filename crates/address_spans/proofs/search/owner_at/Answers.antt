use Rattle.std.proofs.Common.{rules, sym, leb}
use Rattle.std.proofs.lemmas.List.Sorted.{IsPartitionPoint-from_clause, IsPartitionedBy-leb}
use Rattle.address_spans.proofs.SearchLemmas.{ends-rise, first_behind, search-hit, search-miss, search-none}
use Rattle.address_spans.proofs.search.owner_at.Goals as goal

pub returns-in-Some : goal.returns-in-Some
returns-in-Some c =
    let parted = IsPartitionedBy-leb (λ span. span.hi) c.args.spans.now c.args.address (ends-rise _ _ _ c.requires) in
    let point = first_behind _ _ _ (IsPartitionPoint-from_clause (λ span. leb span.hi c.args.address) _ _ c.partition_point-at.ensures.partitioned parted (λ a r q k. search rules)) in
    let found = c.in-Some.ensures.lookup in
    sym (search-hit _ _ _ _ _ _ _ c.requires found.3.0 found.1 point c.if-span-address.true)

pub returns-in_default : goal.returns-in_default
returns-in_default c =
    let parted = IsPartitionedBy-leb (λ span. span.hi) c.args.spans.now c.args.address (ends-rise _ _ _ c.requires) in
    let point = first_behind _ _ _ (IsPartitionPoint-from_clause (λ span. leb span.hi c.args.address) _ _ c.partition_point-at.ensures.partitioned parted (λ a r q k. search rules)) in
    let found = c.in-Some.ensures.lookup in
    sym (search-miss _ _ _ _ _ _ _ c.requires found.3.0 found.1 point c.if-span-address.false)

pub returns-in_default-2 : goal.returns-in_default-2
returns-in_default-2 c =
    let parted = IsPartitionedBy-leb (λ span. span.hi) c.args.spans.now c.args.address (ends-rise _ _ _ c.requires) in
    let point = first_behind _ _ _ (IsPartitionPoint-from_clause (λ span. leb span.hi c.args.address) _ _ c.partition_point-at.ensures.partitioned parted (λ a r q k. search rules)) in
    let none = rw c.in_default.is at c.get.ensures.lookup in
    sym (search-none _ _ _ none.3 point)
