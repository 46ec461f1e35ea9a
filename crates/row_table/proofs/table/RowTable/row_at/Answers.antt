use Rattle.std.proofs.Common.{sym, ap, ◌∙◌}
use Rattle.address_spans.specs.Spans.{owner_at}
use Rattle.row_table.specs.Told.{told}
use Rattle.row_table.proofs.IndexLemmas.{told-none, told-some}
use Rattle.row_table.proofs.table.RowTable.row_at.Goals as goal

pub returns-in_err-place : goal.returns-in_err-place
returns-in_err-place c =
    let place = sym c.in_err-place.was ∙ c.owner_at.ensures ∙ ap (λ spans. owner_at spans c.args.address) c.deref.ensures.value ∙ c.self.invariant.1.first c.args.address in
    let none = told-none c.self.inside.sequences.items c.args.address place in
    c.from_residual.ensures ∙ sym none ∙ ap (λ ss. told ss c.args.address) c.self.view_is

pub returns : goal.returns
returns c =
    let place = sym c.in_ok-place.was ∙ c.owner_at.ensures ∙ ap (λ spans. owner_at spans c.args.address) c.deref.ensures.value ∙ c.self.invariant.1.first c.args.address in
    c.row_at.ensures ∙ told-some c.self.inside.sequences.items c.args.address c.in_ok-place.place c.index.result.now place c.index.ensures ∙ ap (λ ss. told ss c.args.address) c.self.view_is
