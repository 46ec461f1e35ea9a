use Rattle.std.proofs.Common.{rules, arith, ap, inl, inr, ltb, ltb-true, ltb-false}
use Rattle.std.proofs.lemmas.Bool.{cases_lt}
use Rattle.std.proofs.lemmas.List.{get_or_default}
use Rattle.std.proofs.lemmas.List.Sorted.{IsPartitionPoint-from_clause, IsPartitionedBy-ltb}
use Rattle.key_types.specs.declared.places.Seg.{Seg}
use Rattle.block_weights.proofs.SegmentLemmas.{starts-rise}
use Rattle.block_weights.proofs.counted.end_below.Goals as goal

-- what a place past the end of a slice reads as
none : Seg
none = record { lo = 0; hi = 0; key = record { 0 = 0 }; factor = 0 }

pub returns-then-end-first-eq-NEAR-clause-within :
    goal.returns-then-end-first-eq-NEAR-clause-within
unfolding none
returns-then-end-first-eq-NEAR-clause-within c =
    let parted = IsPartitionedBy-ltb (λ segment. segment.lo) c.args.segments.now c.args.hi (starts-rise _ c.requires.segments) in
    let point = IsPartitionPoint-from_clause (λ segment. ltb segment.lo c.args.hi) _ _ c.partition_point.ensures.partitioned parted (λ a r q k. search rules) in
    elim (cases_lt c.loop-end.end c.partition_point.result) [
      | inl less ↦ (omega (arith, c.loop-end.invariant.0, less), c.partition_point.ensures.bound)
      | inr not ↦ absurd (omega (arith, c.if-segments-end.true, ltb-false _ _ (point.1 c.loop-end.end none not c.loop-end-test.true)))
    ]

pub returns-then-end-first-eq-NEAR-clause-below : goal.returns-then-end-first-eq-NEAR-clause-below
returns-then-end-first-eq-NEAR-clause-below c =
    let parted = IsPartitionedBy-ltb (λ segment. segment.lo) c.args.segments.now c.args.hi (starts-rise _ c.requires.segments) in
    let point = IsPartitionPoint-from_clause (λ segment. ltb segment.lo c.args.hi) _ _ c.partition_point.ensures.partitioned parted (λ a r q k. search rules) in
    λ k d from below. ltb-true _ _ (point.0 k d (omega arith) below)

pub returns-then-end-first-eq-NEAR-clause-from : goal.returns-then-end-first-eq-NEAR-clause-from
returns-then-end-first-eq-NEAR-clause-from c =
    let parted = IsPartitionedBy-ltb (λ segment. segment.lo) c.args.segments.now c.args.hi (starts-rise _ c.requires.segments) in
    let point = IsPartitionPoint-from_clause (λ segment. ltb segment.lo c.args.hi) _ _ c.partition_point.ensures.partitioned parted (λ a r q k. search rules) in
    λ k d from below. ltb-false _ _ (point.1 k d from below)

pub returns-else-segments-end-clause-from : goal.returns-else-segments-end-clause-from
unfolding none
returns-else-segments-end-clause-from c =
    let segments = c.args.segments.now in
    λ k d from below. omega (
      arith,
      c.if-segments-end.false,
      starts-rise segments c.requires.segments c.loop-end.end k d from below,
      ap (λ (s : Seg). s.lo) (get_or_default segments c.loop-end.end none d (omega (arith, from, below))),
    )
