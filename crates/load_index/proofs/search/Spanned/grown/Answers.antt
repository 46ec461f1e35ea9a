use Rattle.std.proofs.Common.{ℕ, ◌-◌, ◌^◌, ◌++◌, List, Option, ap, reverse, subst, sym, ◌∙◌}
use Rattle.std.specs.Option.{option_or}
use Rattle.address_spans.specs.declared.span.Span.{Span}
use Rattle.address_spans.specs.Spans.{owner_at}
use Rattle.sample_model.specs.declared.load.Load.{Load}
use Rattle.sample_model.specs.Moves.{last_load}
use Rattle.load_index.specs.Spans.{IsSpanned, newest_first}
use Rattle.load_index.proofs.SpanLemmas.{last_load-parts, split_whole, told_by_spans}
use Rattle.load_index.proofs.search.Spanned.grown.Goals as goal

pub returns-clause-spans : goal.returns-clause-spans
returns-clause-spans c =
    let loads = c.args.loads.now in
    let below = c.args.self.spans.items in
    let front = c.split_at.result.0.now in
    let recent = c.split_at.result.1.now in
    let whole = split_whole loads front recent c.args.self.count c.split_at.ensures.front c.split_at.ensures.back in
    let spanned = subst (λ (ls : List Load). IsSpanned ls below c.args.self.top) (sym c.split_at.ensures.front) c.requires.spans in
    record {
      disjoint = c.in_ok-spans.ensures.disjoint;
      told = told_by_spans front recent loads below c.in_ok-spans.spans.items whole
          (λ address. c.in_ok-spans.ensures.same address
          ∙ ap (λ (s : List Span). owner_at s address) (c.deref.ensures.value ∙ c.in_ok-laid.ensures)
          ∙ ap (λ (n : ℕ). owner_at (newest_first n (reverse recent) ++ below) address) (sym c.split_at.ensures.front_len))
          spanned.told;
      last = c.or.ensures
          ∙ ap (λ (l : Option Load). option_or l c.args.self.top) c.last_of.ensures
          ∙ ap (option_or (last_load recent (2 ^ 64 - 1))) spanned.last
          ∙ sym (last_load-parts front recent loads (2 ^ 64 - 1) whole);
    }
