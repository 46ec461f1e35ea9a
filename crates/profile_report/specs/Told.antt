-- What the rows of a report tell of.
use Rattle.std.specs.Prelude.{◌≡◌, List, map}
use Rattle.std.specs.List.Sorted.{IsSorted}
use Rattle.sample_model.specs.declared.pair.Pair.{Pair}
use Rattle.branch_counts.specs.Pair.{pair_cmp}
use Rattle.branch_counts.specs.Table.{Tallies}
use Rattle.report_model.specs.declared.class.Class.{Class}
use Rattle.report_model.specs.declared.class.RangeClass.{RangeClass}
use Rattle.report_model.specs.Report.{Classes, Sampled}
use Rattle.profile_report.specs.declared.classed.Classed.{Classed}
use Rattle.profile_report.specs.declared.report.BranchUnits.{BranchUnits}
use Rattle.profile_report.specs.Classed.{classed_by}

-- The rows are those of the distinct branches in order, and of the distinct ranges, each with its class.
pub record Tells
    (classes : Classes) (sampled : Sampled)
    (branches : List (Classed Class)) (ranges : List (Classed RangeClass)) (units : BranchUnits)
    : Type 0 where
  pub branch_rows : List Pair
  pub range_rows : List Pair
  pub branches_are : branches ≡ map (classed_by (λ from to. classes.of_branch (from, to))) branch_rows
  pub ranges_are : ranges ≡ map (classed_by (λ from to. classes.of_range (from, to))) range_rows
  pub of_branches : Tallies sampled.branches branch_rows
  pub of_ranges : Tallies sampled.ranges range_rows
  pub in_order : IsSorted pair_cmp branch_rows
  pub read : units.read ≡ sampled.units_read
  pub passed : units.passed ≡ sampled.units_passed
