use Rattle.std.proofs.Common.{◌≡◌, List, arith, ap, sym, ◌∙◌}
use Rattle.std.specs.Prelude.{option_and_then, slice_get}
use Rattle.address_spans.specs.declared.span.Span.{Span}
use Rattle.address_spans.specs.Spans.{owner_at}
use Rattle.sample_model.specs.Moves.{last_load}
use Rattle.load_index.proofs.SpanLemmas.{told_now}
use Rattle.load_index.proofs.search.Spanned.last.Goals as goal

pub returns-in_err-place : goal.returns-in_err-place
returns-in_err-place c =
    let loads = c.args.loads.now in
    let told : last_load loads c.args.address ≡ option_and_then (slice_get loads) c.owner_at.result =
    told_now loads c.args.self.now.spans.items c.args.address (λ more. c.requires.told more c.args.address (omega arith))
    ∙ ap (λ (spans : List Span). option_and_then (slice_get loads) (owner_at spans c.args.address)) (sym c.deref.ensures.value)
    ∙ ap (option_and_then (slice_get loads)) (sym c.owner_at.ensures) in
    c.from_residual.ensures ∙ sym (told ∙ ap (option_and_then (slice_get loads)) c.in_err-place.was)

pub returns : goal.returns
returns c =
    let loads = c.args.loads.now in
    let told : last_load loads c.args.address ≡ option_and_then (slice_get loads) c.owner_at.result =
    told_now loads c.args.self.now.spans.items c.args.address (λ more. c.requires.told more c.args.address (omega arith))
    ∙ ap (λ (spans : List Span). option_and_then (slice_get loads) (owner_at spans c.args.address)) (sym c.deref.ensures.value)
    ∙ ap (option_and_then (slice_get loads)) (sym c.owner_at.ensures) in
    c.load_at.ensures ∙ sym (told ∙ ap (option_and_then (slice_get loads)) c.in_ok-place.was)
