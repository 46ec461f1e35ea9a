-- What follows from the definitions.
use Rattle.std.specs.Prelude.{◌≡◌, ℕ, ◌+◌, length, sum_by}
use Rattle.report_model.specs.declared.class.Reason.{Reason}
use Rattle.report_model.specs.declared.class.RangeClass.TheVariants.{Ran, Reversed, RangeOutside, Crossing}
use Rattle.report_model.specs.Branches.{is_entry, is_inside}
use Rattle.sample_model.specs.Pairs.{times_of}
use Rattle.report_model.specs.Report.{Classes, Sampled, branches_where, ranges_of_class, reasons, unmapped_for}

-- How often the lines of a reason say that their branches stand, all in all.
abbrev pub times_for : Classes → Sampled → Reason → ℕ
times_for classes sampled reason =
    sum_by (λ branch. times_of branch sampled.branches) (unmapped_for classes sampled reason)

-- Each sampled branch is counted once: among the entries, inside, or in one line of those unmapped.
abbrev pub EachBranchOnce : Type 0
EachBranchOnce =
    (classes : Classes) (sampled : Sampled)
    → branches_where classes sampled is_entry + branches_where classes sampled is_inside
    + sum_by (times_for classes sampled) reasons
    ≡ length sampled.branches

-- Each sampled range is counted once.
abbrev pub EachRangeOnce : Type 0
EachRangeOnce =
    (classes : Classes) (sampled : Sampled)
    → ranges_of_class classes sampled Ran + ranges_of_class classes sampled Reversed
    + ranges_of_class classes sampled RangeOutside + ranges_of_class classes sampled Crossing
    ≡ length sampled.ranges
