use Rattle.std.proofs.Common.{subst, sym, ap, ◌∙◌, List, arith}
use Rattle.address_spans.specs.declared.span.Span.{Span}
use Rattle.address_spans.specs.Spans.{AreDisjoint, owner_at}
use Rattle.span_cover.proofs.StretchLemmas.{stretches-disjoint, numbered-disjoint, number-below}
use Rattle.span_cover.proofs.stretches.Stretches.number.Goals as goal

pub owner_at-requires : goal.owner_at-requires
owner_at-requires c =
    subst (λ (ss : List Span). AreDisjoint ss) (sym (c.deref.ensures.value ∙ c.self.invariant.0)) (numbered-disjoint 0 _ (stretches-disjoint _ c.self.inside.are))

pub overflow_cast-result : goal.overflow_cast-result
overflow_cast-result c =
    let is = sym c.in_ok-number.was ∙ c.owner_at.ensures ∙ ap (λ (ss : List Span). owner_at ss c.args.address) (c.deref.ensures.value ∙ c.self.invariant.0) in
    omega (arith, number-below c.self.inside.spans.items 0 c.args.address c.in_ok-number.number is, c.self.invariant.1)
