use Rattle.std.proofs.Common.{◌≡◌, ◌++◌, ap, ◌∙◌, List}
use Rattle.std.specs.Option.{option_or}
use Rattle.address_spans.specs.declared.span.Span.{Span}
use Rattle.address_spans.specs.Spans.{framed_owner, owner_at}
use Rattle.address_spans.proofs.SpanLemmas.{owner-append}
use Rattle.span_cover.specs.Owners.{owned, spans_of}
use Rattle.std.proofs.lemmas.Result.{on_ok_weaker}
use Rattle.span_cover.proofs.CoverLemmas.{alone, spans-owner}
use Rattle.span_cover.proofs.level.push_cover.Goals as goal

pub returns : goal.returns
returns c = λ a.
    let pieces : owner_at c.deref.result.now a ≡ owned a c.args.number c.args.member.now =
    ap (λ (spans : List Span). owner_at spans a) (c.deref.ensures.value ∙ c.in_ok-push_pieces.ensures ∙ ap (λ (spans : List Span). spans ++ spans_of c.args.number c.args.member.now.pieces) c.new-pieces.ensures.items)
    ∙ spans-owner a c.args.number c.args.member.now.pieces
    in
    let frames : owner_at c.deref-2.result.now a ≡ owned a c.args.number c.args.member.now =
    ap (λ (spans : List Span). owner_at spans a) c.deref-2.ensures.value ∙ c.in_ok-disjoint.ensures.same a ∙ pieces
    in
    ap (λ (spans : List Span). owner_at spans a) c.in_ok-append.ensures.items
    ∙ owner-append c.args.spans.now.items c.in_ok-cover.cover.items a
    ∙ ap (option_or (owner_at c.args.spans.now.items a)) (c.in_ok-cover.ensures.owners a ∙ ap (λ o. framed_owner o (owner_at c.args.inner.now a)) frames)

pub returns-then-is_empty : goal.returns-then-is_empty
returns-then-is_empty c =
    on_ok_weaker c.push_pieces.result
    (λ pushed a. alone a c.args.number c.args.member.now c.args.spans.now.items c.push_pieces.new.spans.items c.args.inner.now c.if-is_empty.ensures pushed)
    c.push_pieces.ensures
