use Rattle.std.proofs.Common.{◌≡◌, ◌∷◌, suc, Bool, List, ap, ◌∙◌, sym, subst, drop, drop-cons, get_or, add-one}
use Rattle.std.proofs.lemmas.List.{drop_all}
use Rattle.address_spans.specs.declared.span.Span.{Span}
use Rattle.address_spans.specs.Spans.{AreDisjoint, owner_at}
use Rattle.span_cover.specs.Asked.{innermost_asked}
use Rattle.context_map.specs.Maps.{rows_of}
use Rattle.context_map.proofs.PartsLemmas.{PartsSoFar, PartsSoFar-none, PartsSoFar-there, PartsSoFar-more, PartsSoFar-all}
use Rattle.context_map.proofs.parts.parts_of.Goals as goal

-- what a place past the end of a slice reads as
none : Span
none = record { lo = 0; hi = 0; owner = 0 }

pub loop-span-init : goal.loop-span-init
loop-span-init c =
    let value = sym c.deref-span-items.ensures.value in (
      0,
      PartsSoFar-none _ _ _ _ _ c.deref-span-items.result.now _ _ _
          (subst (λ (ss : List Span). AreDisjoint ss) value c.in_ok-cover.ensures.disjoint)
          (λ a. ap (λ (ss : List Span). owner_at ss a) c.deref-span-items.ensures.value ∙ c.in_ok-cover.ensures.owners a ∙ ap (λ (marks : List Bool). innermost_asked marks c.args.members.now a) c.marks.ensures)
          c.new.ensures.items c.new-2.ensures.items,
    )

pub context_of-requires-clause-there : goal.context_of-requires-clause-there
unfolding none
context_of-requires-clause-there c =
    let cover = c.deref-span-items.result.now in
    let i = c.loop-span.span-index in
    let next : drop i cover ≡ get_or cover i none ∷ drop (suc i) cover = drop-cons cover i none c.loop-span-test.true in
    let so_far = subst (λ (left : List Span). PartsSoFar c.args.asked.now (rows_of c.args.rows.now) c.args.rules.base c.args.members.now c.args.rules.most left c.args.keys.now c.loop-span.keys c.loop-span.parts.segments.items c.loop-span.parts.nameless.items c.loop-span.invariant.0) next c.loop-span.invariant.1 in
    PartsSoFar-there _ _ _ _ _ _ _ _ _ _ _ _ so_far

pub loop-span-preserved : goal.loop-span-preserved
unfolding none
loop-span-preserved c =
    let cover = c.deref-span-items.result.now in
    let i = c.loop-span.span-index in
    let next : drop i cover ≡ get_or cover i none ∷ drop (suc i) cover = drop-cons cover i none c.loop-span-test.true in
    let so_far = subst (λ (left : List Span). PartsSoFar c.args.asked.now (rows_of c.args.rows.now) c.args.rules.base c.args.members.now c.args.rules.most left c.args.keys.now c.loop-span.keys c.loop-span.parts.segments.items c.loop-span.parts.nameless.items c.loop-span.invariant.0) next c.loop-span.invariant.1 in
    rw add-one (
      (get_or cover i none).hi,
      PartsSoFar-more _ _ _ _ _ _ _ _ _ _ _ _ _ _ _ c.in_ok-context.context so_far c.in_ok-context.ensures c.in_ok-push_span.ensures.told c.in_ok-push_span.ensures.nameless c.in_ok-push_span.ensures.used c.in_ok-push_span.ensures.kept c.in_ok-push_span.ensures.most,
    )

pub returns-clause-parts : goal.returns-clause-parts
returns-clause-parts c = PartsSoFar-all _ _ _ _ _ _ _ _ _ _ _ c.loop-span.invariant.1 (drop_all _ _ c.loop-span-test.false)

pub returns-clause-used : goal.returns-clause-used
returns-clause-used c = c.loop-span.invariant.1.used
