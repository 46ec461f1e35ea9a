use Rattle.std.proofs.Common.{◌∙◌, ap, rules}
use Rattle.std.proofs.lemmas.List.Sorted.{IsNonDecreasingBy-from_sort_by_key}
use Rattle.std.proofs.lemmas.Result.{IfOk-weaker}
use Rattle.address_spans.specs.Spans.{owner_at}
use Rattle.line_lift.proofs.FallLemmas.{largest_is_first}
use Rattle.line_lift.proofs.spans.largest_first.Goals as goal

pub returns-clause-largest : goal.returns-clause-largest
returns-clause-largest c =
    let up = IsNonDecreasingBy-from_sort_by_key (λ span. span.owner) _ c.sort_unstable_by_key.ensures.sorted (λ a r q k. search rules) in
    IfOk-weaker c.disjoint.result _ _
    (λ made same. largest_is_first _ _ made.items c.sort_unstable_by_key.ensures.permutation up
    (λ a. same a ∙ ap (λ spans. owner_at spans a) (c.deref.ensures.value ∙ c.reverse.ensures.items)))
    c.disjoint.ensures.same
