-- Rows with their classes, and what the report's parts say of them.
use Rattle.std.specs.Prelude.{ℕ, Bool, List, filter, sum_by}
use Rattle.std.specs.List.{flat_map}
use Rattle.sample_model.specs.declared.pair.Pair.{Pair}
use Rattle.branch_counts.specs.Table.{pair_of}
use Rattle.report_model.specs.declared.class.Class.{Class}
use Rattle.report_model.specs.declared.class.Reason.{Reason}
use Rattle.report_model.specs.Branches.{is_unmapped}
use Rattle.report_model.specs.Report.{unmapped_line}
use Rattle.profile_report.specs.declared.classed.Classed.{Classed}

-- A row with the class of its pair.
abbrev pub classed_by : {C : Type 0} → (ℕ → ℕ → C) → Pair → Classed C
classed_by class row = record { row = row; class = class row.from row.to }

-- How often the rows of a kind of classes say that their pairs stand.
abbrev pub times_where : {C : Type 0} → (C → Bool) → List (Classed C) → ℕ
times_where is rows = sum_by (λ r. r.row.times) (filter (λ r. is r.class) rows)

-- How often all rows do.
abbrev pub all_times : {C : Type 0} → List (Classed C) → ℕ
all_times rows = sum_by (λ r. r.row.times) rows

-- The line of an unmapped row.
abbrev pub line_for : Reason → Classed Class → List ℕ
line_for reason r = unmapped_line reason (pair_of r.row) r.row.times

-- The lines of those that are unmapped for a reason.
abbrev pub lines_for : List (Classed Class) → Reason → List ℕ
lines_for rows reason = flat_map (line_for reason) (filter (λ r. is_unmapped reason r.class) rows)
