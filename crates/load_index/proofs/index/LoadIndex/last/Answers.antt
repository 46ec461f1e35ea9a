use Rattle.std.proofs.Common.{◌≡◌, ◌≤◌, List, Option, None, Some, ap, refl, sym, ◌∙◌}
use Rattle.std.specs.Prelude.{IfSome}
use Rattle.std.specs.Option.{option_or}
use Rattle.sample_model.specs.declared.load.Load.{Load}
use Rattle.sample_model.specs.Moves.{last_load}
use Rattle.load_index.proofs.SpanLemmas.{last_load-parts, last_load-starts, split_whole}
use Rattle.load_index.proofs.index.LoadIndex.last.Goals as goal

pub returns-in-Some-clause-last : goal.returns-in-Some-clause-last
returns-in-Some-clause-last c =
    let loads = c.deref.result.now in
    let front = c.split_at.result.0.now in
    let back = c.split_at.result.1.now in
    let whole = split_whole loads front back c.self.inside.spanned.count c.split_at.ensures.front c.split_at.ensures.back in
    ap (λ (l : Option Load). option_or l (last_load front c.args.address)) c.in-Some.ensures
    ∙ sym (last_load-parts front back loads c.args.address whole)
    ∙ ap (λ (ls : List Load). last_load ls c.args.address) (c.deref.ensures.value ∙ c.self.view_is)

pub returns-in-Some-clause-holds : goal.returns-in-Some-clause-holds
returns-in-Some-clause-holds c = last_load-starts c.split_at.result.1.now c.args.address c.in-Some.load (sym c.in-Some.ensures)

pub returns-in-None-clause-last : goal.returns-in-None-clause-last
returns-in-None-clause-last c =
    let loads = c.deref.result.now in
    let front = c.split_at.result.0.now in
    let back = c.split_at.result.1.now in
    let whole = split_whole loads front back c.self.inside.spanned.count c.split_at.ensures.front c.split_at.ensures.back in
    c.last.ensures
    ∙ ap (λ (l : Option Load). option_or l (last_load front c.args.address)) c.in-None.ensures
    ∙ sym (last_load-parts front back loads c.args.address whole)
    ∙ ap (λ (ls : List Load). last_load ls c.args.address) (c.deref.ensures.value ∙ c.self.view_is)

pub returns-in-None-clause-holds : goal.returns-in-None-clause-holds
returns-in-None-clause-holds c =
    elim c.last.result as (λ (r : Option Load). c.last.result ≡ r → IfSome r (λ load. load.start ≤ c.args.address)) [
      | Some load ↦ λ is. last_load-starts c.split_at.result.0.now c.args.address load (sym c.last.ensures ∙ is)
      | None ↦ λ is. tt
    ] refl
