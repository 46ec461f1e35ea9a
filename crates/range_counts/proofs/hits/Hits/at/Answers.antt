use Rattle.std.proofs.Common.{List, ap, arith, subst, take, ◌∙◌}
use Rattle.profile_model.specs.declared.step.Step.{Step}
use Rattle.profile_model.specs.Steps.{ground, last_of}
use Rattle.range_counts.specs.Steps.{IsFirstAbove}
use Rattle.range_counts.proofs.StepLemmas.{hits-found}
use Rattle.range_counts.proofs.hits.Hits.at.Goals as goal

pub returns : goal.returns
returns c =
    let steps = c.deref.ensures.value ∙ c.self.view_is in
    let searched = c.deref-2.ensures.value ∙ c.self.view_is in
    hits-found _ _ _ _ (omega arith)
    (subst (λ (ss : List Step). IsFirstAbove ss c.first_above.result c.args.address) searched c.first_above.ensures)
    (c.hits_behind.ensures ∙ ap (λ (ss : List Step). (last_of ground (take c.first_above.result ss)).hits) steps)
