-- A profile with the branches and ranges that it came of.
use Rattle.std.specs.Prelude.{◌≡◌, ◌<◌, ◌≤◌, ◌^◌, ℕ, List, All, length, map, slice_index}
use Rattle.std.specs.List.{filter_map, sum_by}
use Rattle.std.specs.Option.{option_map}
use Rattle.cold_model.specs.Cold.{standing_lines_of}
use Rattle.key_types.specs.Segments.{key_told}
use Rattle.key_types.specs.declared.key.Key.{Key}
use Rattle.key_types.specs.declared.places.Seg.{Seg}
use Rattle.sample_model.specs.Limits.{max_branches}
use Rattle.profile_model.specs.Profile.{lines_of}
use Rattle.profile_model.specs.Text.{profile_text, text_of_lines}
use Rattle.profile_model.specs.Ways.{Way}
use Rattle.profile_model.specs.declared.ran_range.RanRange.{RanRange}
use Rattle.report_model.specs.declared.class.Class.{Class}
use Rattle.report_model.specs.declared.class.RangeClass.{RangeClass}
use Rattle.report_model.specs.Report.{Classes, Sampled, report_text}
use Rattle.weight_model.specs.Edges.{passed}
use Rattle.output_model.specs.Built.{count_of_way, ran_past}
use Rattle.output_model.specs.Program.{Program, way_at}
use Rattle.output_model.specs.Sampled.{classes_of, profile_of}
use Rattle.output_model.specs.Summary.{totals_in}
use Rattle.profile_report.specs.Classed.{all_times}
use Rattle.profile_report.specs.Told.{Tells}
use Rattle.profile_report.specs.declared.classed.Classed.{Classed}
use Rattle.profile_report.specs.declared.report.BranchUnits.{BranchUnits}
use Rattle.profile_tree.specs.Standing.{first_ways}
use Rattle.profile_tree.specs.Told.{told}
use Rattle.profile_tree.specs.declared.line.Line.{Line}
use Rattle.profile_tree.specs.declared.line.Line.TheVariants.{Function, Body, Call}
use Rattle.profile_writer.specs.Items.{ran_in}

-- What a profile is made of: its lines, the count of each key at its number, and the rows and numbers of units that are
-- reported.
pub record Parts : Type 0 where
  pub lines : List Line
  pub counts : List ℕ
  pub branches : List (Classed Class)
  pub ranges : List (Classed RangeClass)
  pub units : BranchUnits

-- The ranges that ran.
abbrev pub ran : Parts → List RanRange
ran parts = filter_map ran_in parts.ranges

-- The text of the lines.
abbrev pub lines_text : List (List ℕ) → Parts → List ℕ
lines_text names parts = text_of_lines (map (told names) parts.lines)

-- The total in the line of a function; no other line counts.
abbrev pub total_of_line : Line → ℕ
total_of_line (Function name total head) = total
total_of_line (Body depth offset disc count targets) = 0
total_of_line (Call depth offset disc name total) = 0

-- The totals of all functions, together.
abbrev pub total_of : Parts → ℕ
total_of parts = sum_by total_of_line parts.lines

-- Counts are below 2^44, and rows tell of no more branches and ranges than a text may have.
pub record AreSmall (parts : Parts) : Type 0 where
  pub counts_small : All (λ count. count < 2 ^ 44) parts.counts
  pub few_branches : all_times parts.branches ≤ max_branches
  pub few_ranges : all_times parts.ranges ≤ max_branches

-- The parts are those of the profile of a program and its samples: the lines, their totals and the report are theirs,
-- each address has the count of its way, and ranges ran past it as often.
pub record IsProfileOf
    (program : Program) (sampled : Sampled) (names : List (List ℕ)) (segments : List Seg) (parts : Parts)
    : Type 0 where
  pub written : lines_text names parts ≡ profile_text (profile_of program sampled)
  pub totalled : total_of parts ≡ totals_in (lines_of (profile_of program sampled))
  pub classes : Classes
  pub classed : Tells classes sampled parts.branches parts.ranges parts.units
  pub reported : report_text classes sampled ≡ report_text (classes_of program) sampled
  pub counted : (address : ℕ)
      → option_map (λ key. slice_index parts.counts key.0) (key_told segments address)
      ≡ option_map (count_of_way program sampled) (way_at program address)
  pub passing : passed (ran parts) ≡ ran_past program sampled

-- The same with a line for each of these ways whose function stands there.
pub record IsProfileWith
    (program : Program) (sampled : Sampled) (names : List (List ℕ)) (segments : List Seg) (besides : List Way)
    (parts : Parts)
    : Type 0 where
  pub written : map (told names) parts.lines ≡ standing_lines_of besides (profile_of program sampled)
  pub classes : Classes
  pub classed : Tells classes sampled parts.branches parts.ranges parts.units
  pub reported : report_text classes sampled ≡ report_text (classes_of program) sampled
  pub counted : (address : ℕ)
      → option_map (λ key. slice_index parts.counts key.0) (key_told segments address)
      ≡ option_map (count_of_way program sampled) (way_at program address)
  pub passing : passed (ran parts) ≡ ran_past program sampled

-- The parts are those of the profile of a program and its samples with a line for each of these keys whose function
-- stands there: the lines and the report are theirs.
pub record IsProfileWithCold
    (program : Program) (sampled : Sampled) (names : List (List ℕ)) (keys : List Key) (parts : Parts)
    : Type 0 where
  pub written : map (told names) parts.lines
      ≡ standing_lines_of (first_ways names keys (length keys)) (profile_of program sampled)
  pub classes : Classes
  pub classed : Tells classes sampled parts.branches parts.ranges parts.units
  pub reported : report_text classes sampled ≡ report_text (classes_of program) sampled
