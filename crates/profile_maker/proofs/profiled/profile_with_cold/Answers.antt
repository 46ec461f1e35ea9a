use Rattle.std.proofs.Common.{◌∙◌, subst, sym}
use Rattle.std.specs.List.Sorted.{IsSorted}
use Rattle.branch_counts.specs.Pair.{pair_cmp}
use Rattle.branch_counts.specs.Table.{Tallies}
use Rattle.sample_model.specs.Moves.{branches_by, ranges_by}
use Rattle.output_model.specs.Output.{sampled_by}
use Rattle.profile_maker.proofs.profiled.profile_with_cold.Goals as goal

pub profile_over_all-requires-clause-placed : goal.profile_over_all-requires-clause-placed
profile_over_all-requires-clause-placed c =
    let is = c.requires in (is.0, is.1, c.in_ok-placed.ensures is.0 is.1 is.2)

pub returns-clause-told : goal.returns-clause-told
returns-clause-told c = λ file base loading lines is with_ranges tells.
    let rows = c.in_ok-branches.ensures.told loading lines with_ranges tells in
    let placed = c.in_ok-placed.ensures file base is in (
      placed,
      c.in_ok-profile.ensures.told file base (sampled_by loading file lines) placed
          (record {
            of_branches = subst (Tallies (branches_by loading lines)) (sym c.deref.ensures.value) rows.0;
            of_ranges = subst (Tallies (ranges_by loading lines)) (sym c.deref-2.ensures.value) rows.1;
            in_order = subst (IsSorted pair_cmp) (sym c.deref.ensures.value) c.in_ok-branches.ensures.sorted;
            read = c.units_of-units.ensures.read ∙ is.read_are;
            passed = c.units_of-units.ensures.passed ∙ is.passed_are;
          }),
    )
