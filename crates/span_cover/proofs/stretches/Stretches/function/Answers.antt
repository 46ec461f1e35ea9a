use Rattle.std.proofs.Common.{subst, sym, List}
use Rattle.address_spans.specs.declared.span.Span.{Span}
use Rattle.address_spans.specs.Spans.{AreDisjoint}
use Rattle.span_cover.proofs.StretchLemmas.{stretches-disjoint}
use Rattle.span_cover.proofs.stretches.Stretches.function.Goals as goal

pub owner_at-requires : goal.owner_at-requires
owner_at-requires c =
    subst (λ (ss : List Span). AreDisjoint ss) (sym c.deref.ensures.value) (stretches-disjoint _ c.self.inside.are)
