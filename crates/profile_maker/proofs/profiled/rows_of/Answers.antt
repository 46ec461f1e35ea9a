use Rattle.std.proofs.Common.{◌≤◌, ℕ, subst, ◌∙◌}
use Rattle.sample_model.specs.Limits.{max_branches}
use Rattle.profile_maker.proofs.SampleLemmas.{branches_fit, ranges_told}
use Rattle.branch_counts.proofs.OrderLemmas.{rows_tally_in_any_order}
use Rattle.sample_model.specs.Moves.{branches_by}
use Rattle.profile_maker.proofs.profiled.rows_of.Goals as goal

pub returns-clause-few_branches : goal.returns-clause-few_branches
returns-clause-few_branches c =
    branches_fit c.args.counts c.in_ok-branches.branches.items c.in_ok-branches.ensures.same
    (subst (λ (n : ℕ). n ≤ max_branches) c.total-total.ensures.value c.total-total.ensures.within)

pub returns-clause-told : goal.returns-clause-told
returns-clause-told c = λ loading lines with_ranges tells. (
  rows_tally_in_any_order (branches_by loading lines) c.args.counts.branches c.in_ok-branches.branches.items c.in_ok-branches.ensures.same tells.branches,
  ranges_told loading lines c.args.counts c.in_ok-branches.ranges.items with_ranges tells c.in_ok-branches.ensures.ranges,
  c.total-total.ensures.value ∙ tells.branches.total,
)
