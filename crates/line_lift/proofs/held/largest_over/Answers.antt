use Rattle.std.proofs.Common.{leb, refl, rules}
use Rattle.std.proofs.lemmas.List.Sorted.{IsPartitionPoint-from_clause, IsPartitionedBy-leb}
use Rattle.address_spans.proofs.SearchLemmas.{ends-rise, first_behind}
use Rattle.address_spans.specs.declared.span.Span.{Span}
use Rattle.line_lift.proofs.OwnerLemmas.{OverSoFar-all, OverSoFar-more, OverSoFar-some, parted_at}
use Rattle.line_lift.proofs.held.largest_over.Goals as goal

-- what a place past the end of a slice reads as
none : Span
none = record { lo = 0; hi = 0; owner = 0 }

pub returns-then-span-hi : goal.returns-then-span-hi
unfolding none
returns-then-span-hi c =
    let parted = IsPartitionedBy-leb (λ span. span.hi) c.args.spans.now c.args.lo (ends-rise _ _ _ c.requires.spans) in
    let point = first_behind _ _ _ (IsPartitionPoint-from_clause (λ span. leb span.hi c.args.lo) _ _ c.partition_point-first.ensures.partitioned parted (λ a r q k. search rules)) in
    OverSoFar-some _ _ c.args.spans.now _ _ c.loop-span.span-index c.loop-span.largest _ none
    c.requires.spans c.requires.filled (parted_at _ _ _ point) c.loop-span-test.true refl c.if-span-hi.true c.loop-span.invariant

pub loop-span-preserved : goal.loop-span-preserved
unfolding none
loop-span-preserved c =
    rw c.larger-largest.ensures
    (OverSoFar-more _ _ c.loop-span.span-index c.loop-span.largest _ none c.loop-span-test.true refl c.if-span-hi.false c.loop-span.invariant)

pub returns : goal.returns
returns c =
    let parted = IsPartitionedBy-leb (λ span. span.hi) c.args.spans.now c.args.lo (ends-rise _ _ _ c.requires.spans) in
    let point = first_behind _ _ _ (IsPartitionPoint-from_clause (λ span. leb span.hi c.args.lo) _ _ c.partition_point-first.ensures.partitioned parted (λ a r q k. search rules)) in
    OverSoFar-all _ _ c.args.spans.now _ _ c.loop-span.span-index c.loop-span.largest
    c.requires.spans c.requires.filled (parted_at _ _ _ point) c.loop-span-test.false c.loop-span.invariant
