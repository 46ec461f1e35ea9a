use Rattle.std.proofs.Common.{◌∙◌, subst, sym}
use Rattle.std.proofs.lemmas.Result.{IfOk-weaker}
use Rattle.branch_counts.specs.Table.{Tallies}
use Rattle.sample_model.specs.Moves.{ranges_by}
use Rattle.output_model.specs.Output.{sampled_by}
use Rattle.profile_maker.proofs.profiled.profile_of.Goals as goal

pub returns-clause-told : goal.returns-clause-told
returns-clause-told c =
    IfOk-weaker c.profile_by_rows.result _ _ (λ made told file base loading lines is with_ranges tells.
    let rows = c.in_ok-branches.ensures.told loading lines with_ranges tells in
    told file base (sampled_by loading file lines) is
    (record {
      of_branches = rows.0;
      of_ranges = subst (Tallies (ranges_by loading lines)) (sym c.deref.ensures.value) rows.1;
      in_order = c.in_ok-branches.ensures.sorted;
      read = c.units_of-units.ensures.read ∙ is.read_are;
      passed = c.units_of-units.ensures.passed ∙ is.passed_are;
    })
    rows.2) c.profile_by_rows.ensures.told
