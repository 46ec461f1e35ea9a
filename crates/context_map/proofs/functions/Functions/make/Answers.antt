use Rattle.std.proofs.Common.{◌≡◌, ℕ, List, ap, ◌∙◌}
use Rattle.address_spans.specs.declared.span.Span.{Span}
use Rattle.address_spans.specs.Spans.{owner_at}
use Rattle.chain_model.specs.Chains.{function_at}
use Rattle.span_cover.specs.Stretches as stretches
use Rattle.context_map.proofs.MapLemmas.{entry}
use Rattle.context_map.proofs.functions.Functions.make.Goals as goal

pub returns : goal.returns
returns c =
    let members = c.args.members.now in
    let function : (a : ℕ) → stretches.function_at c.in_ok-stretches.stretches a ≡ function_at c.args.members.now a =
    λ a. c.in_ok-stretches.ensures a ∙ ap (λ (ss : List Span). owner_at ss a) c.deref.ensures.value ∙ c.in_ok-function_cover.ensures.owners a
    in record {
      function = function;
      entry = λ a. entry members a _ _ c.in_ok-entrances.ensures (function a);
    }
