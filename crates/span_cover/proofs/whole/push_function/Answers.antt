use Rattle.std.proofs.Common.{◌+◌, ap, ◌∙◌, sym, List, drop, length}
use Rattle.std.specs.Option.{option_or}
use Rattle.std.proofs.lemmas.Result.{on_ok_weaker}
use Rattle.address_spans.specs.declared.span.Span.{Span}
use Rattle.address_spans.specs.Spans.{owner_at}
use Rattle.address_spans.proofs.SpanLemmas.{owner-append}
use Rattle.chain_model.specs.Chains.{numbered}
use Rattle.span_cover.specs.Owners.{spans_of}
use Rattle.span_cover.proofs.AskedLemmas.{function-asked, function-left}
use Rattle.span_cover.proofs.CoverLemmas.{spans-owner}
use Rattle.span_cover.proofs.whole.push_function.Goals as goal

pub returns-then-is_asked : goal.returns-then-is_asked
returns-then-is_asked c =
    let members = c.args.members.now in
    let behind = drop (c.args.number + 1) (numbered c.args.members.now) in
    on_ok_weaker c.push_cover.result
    (λ pushed a. pushed a
    ∙ ap (option_or (owner_at c.args.spans.now.items a))
    (function-asked c.args.marks.now (length members) a c.args.number c.args.member.now behind (owner_at c.deref.result.now a) (sym c.is_asked.ensures ∙ c.if-is_asked.true)
    (ap (λ (spans : List Span). owner_at spans a) c.deref.ensures.value ∙ c.in_ok-inner.ensures.owners a)))
    c.push_cover.ensures

pub returns : goal.returns
returns c =
    let members = c.args.members.now in
    let behind = drop (c.args.number + 1) (numbered c.args.members.now) in
    let pieces = spans_of (length members) c.args.member.now.pieces in
    on_ok_weaker c.push_pieces.result
    (λ pushed a. ap (λ (spans : List Span). owner_at spans a) pushed
    ∙ owner-append c.args.spans.now.items pieces a
    ∙ ap (option_or (owner_at c.args.spans.now.items a))
    (spans-owner a (length members) c.args.member.now.pieces
    ∙ function-left c.args.marks.now (length members) a c.args.number c.args.member.now behind (sym c.is_asked.ensures ∙ c.if-is_asked.false)))
    c.push_pieces.ensures
