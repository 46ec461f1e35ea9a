-- What is written of a binary, a branch text and a block text: the profile, a repair of each listed function, and the
-- report.
use Rattle.std.specs.Prelude.{◌≡◌, ℕ, nat_eq, nat_le, nat_lt, Bool, ◌&&◌, List, ◌++◌, count_by, Option, None, Some, if◌then◌else◌}
use Rattle.block_model.specs.declared.parts.Block.{Block}
use Rattle.block_model.specs.Function.{Function}
use Rattle.profile_model.specs.Text.{profile_text}
use Rattle.profile_model.specs.Ways.{Way}
use Rattle.report_model.specs.declared.class.RangeClass.TheVariants.{Ran}
use Rattle.report_model.specs.Ranges.{is_class}
use Rattle.report_model.specs.Report.{Sampled, report_text}
use Rattle.repair_model.specs.Made.{AreRepairsOf, EdgeTold}
use Rattle.output_model.specs.Program.{Program, way_at}
use Rattle.output_model.specs.Sampled.{all_addresses, class_of_range, classes_of, count_among, profile_of}

-- The count of a way in the profile: the largest hits times factor of all addresses that have it.
abbrev pub count_of_way : Program → Sampled → Way → ℕ
count_of_way program sampled way = count_among all_addresses program sampled way

-- How many sampled branches lead from inside a block to an address.
abbrev pub branches_from : Sampled → Block → ℕ → ℕ
branches_from sampled block to =
    count_by (λ branch. nat_le block.lo branch.0 && nat_lt branch.0 block.hi && nat_eq branch.1 to) sampled.branches

-- How many ranges that ran hold an address and the one before it.
abbrev pub ran_past : Program → Sampled → ℕ → ℕ
ran_past program sampled address =
    count_by
    (λ range. is_class Ran (class_of_range program range) && (nat_lt range.0 address && nat_le address range.1))
    sampled.ranges

-- What samples tell of edges, where their weights are asked for.
abbrev pub edges_of : Bool → Program → Sampled → Option EdgeTold
edges_of asked program sampled =
    if asked then Some (record { taken = branches_from sampled; passed = ran_past program sampled }) else None

-- A text is the profile of a program and its samples, then for each function, in order, counts that conserve within
-- bounds and cost least, with prices that fit them, or a cut; then the report, which counts each branch once. Which
-- least counts, which prices and which cut are told is free.
pub record IsBuilt (edges : Bool) (program : Program) (sampled : Sampled) (funs : List Function) (text : List ℕ)
    : Type 0 where
  pub repairs : List ℕ
  pub repaired : AreRepairsOf (way_at program) (count_of_way program sampled) (edges_of edges program sampled)
      funs repairs
  pub spelled : text
      ≡ profile_text (profile_of program sampled) ++ (repairs ++ report_text (classes_of program) sampled)
