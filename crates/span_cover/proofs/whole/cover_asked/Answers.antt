use Rattle.std.proofs.Common.{ap, ◌∙◌, List}
use Rattle.address_spans.specs.declared.span.Span.{Span}
use Rattle.address_spans.specs.Spans.{owner_at}
use Rattle.span_cover.proofs.AskedLemmas.{asked-disjoint, asked-whole}
use Rattle.span_cover.proofs.whole.cover_asked.Goals as goal

pub returns : goal.returns
returns c = record {
  disjoint = asked-disjoint _ _ _ c.in_ok-made.ensures.disjoint c.keep_below.ensures;
  owners =
      asked-whole c.args.marks.now c.args.members.now c.in_ok-covers.field-0.items c.in_ok-made.made.items _ c.in_ok-covers.ensures c.in_ok-made.ensures.disjoint
      (λ a. c.in_ok-made.ensures.same a ∙ ap (λ (spans : List Span). owner_at spans a) c.deref.ensures.value) c.keep_below.ensures;
}
