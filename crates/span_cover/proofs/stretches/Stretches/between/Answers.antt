use Rattle.std.proofs.Common.{List, ap, ◌∙◌, sym, subst, rules, leb, ltb}
use Rattle.std.specs.List.Sorted.{IsNonDecreasingBy}
use Rattle.std.proofs.lemmas.List.Sorted.{IsPartitionPoint-from_clause, IsPartitionedBy-leb, IsPartitionedBy-ltb, IsNonDecreasingBy-drop}
use Rattle.address_spans.specs.declared.span.Span.{Span}
use Rattle.address_spans.specs.Spans.{AreDisjoint, owner_at}
use Rattle.address_spans.proofs.SearchLemmas.{IsFirstBehind, ends-rise, first_behind}
use Rattle.span_cover.specs.Stretches.{Stretched}
use Rattle.span_cover.proofs.BetweenLemmas.{between-owner, rest, starts-rise}
use Rattle.span_cover.proofs.StretchLemmas.{stretches-disjoint}
use Rattle.span_cover.proofs.stretches.Stretches.between.Goals as goal

pub returns : goal.returns
returns c = λ a low high.
    let disjoint = stretches-disjoint c.self.inside.spans.items c.self.inside.are in
    let i = c.partition_point-first.result in
    let over : AreDisjoint c.deref.result.now = subst (λ (ss : List Span). AreDisjoint ss) (sym c.deref.ensures.value) disjoint in
    let parted = IsPartitionedBy-leb (λ span. span.hi) c.deref.result.now c.args.lo (ends-rise _ _ _ over) in
    let point = first_behind _ _ _ (IsPartitionPoint-from_clause (λ span. leb span.hi c.args.lo) _ _ c.partition_point-first.ensures.partitioned parted (λ a r q k. search rules)) in
    let first = subst (λ (ss : List Span). IsFirstBehind ss i c.args.lo) (c.deref.ensures.value ∙ sym c.deref-2.ensures.value) point in
    let all : AreDisjoint c.deref-2.result.now = subst (λ (ss : List Span). AreDisjoint ss) (sym c.deref-2.ensures.value) disjoint in
    let rise = subst (λ (ss : List Span). IsNonDecreasingBy (λ span. span.lo) ss) (sym (rest c.deref-2.result.now i)) (IsNonDecreasingBy-drop (λ span. span.lo) i c.deref-2.result.now (starts-rise _ _ _ all)) in
    let second = IsPartitionPoint-from_clause (λ span. ltb span.lo c.args.hi) _ _ c.partition_point-count.ensures.partitioned (IsPartitionedBy-ltb (λ span. span.lo) _ c.args.hi rise) (λ a r q k. search rules) in
    between-owner c.deref-2.result.now c.args.lo c.args.hi i c.partition_point-count.result a first second low high
    ∙ ap (λ (ss : List Span). owner_at ss a) c.deref-2.ensures.value
    ∙ ap (λ (s : Stretched). owner_at s.spans a) c.self.view_is
