use Rattle.std.proofs.Common.{List, sym, subst, ◌∙◌}
use Rattle.profile_model.specs.declared.step.Step.{Step}
use Rattle.profile_model.specs.Hits.{IsLargestIn}
use Rattle.profile_model.specs.Steps.{hits_by}
use Rattle.range_counts.specs.Steps.{IsFirstAbove}
use Rattle.range_counts.proofs.hits.Hits.max_in.Goals as goal

pub returns : goal.returns
returns c =
    let steps = c.deref.ensures.value ∙ c.self.view_is in
    let searched = c.deref-2.ensures.value ∙ c.self.view_is in
    let first = subst (λ (ss : List Step). IsFirstAbove ss c.first_above.result c.args.lo) (searched ∙ sym steps) c.first_above.ensures in
    subst (λ (ss : List Step). IsLargestIn c.args.lo c.args.hi (hits_by ss) c.largest_from-largest.result.0) steps
    (c.largest_from-largest.ensures.largest c.args.lo c.requires first)
