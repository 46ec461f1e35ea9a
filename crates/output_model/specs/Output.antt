-- What is written of a binary and a branch text: the profile, then the report.
use Rattle.std.specs.Prelude.{ℕ, Bool, List, ◌++◌, length, Option}
use Rattle.std.specs.Option.{option_map}
use Rattle.text_model.specs.Lines.{lines_of}
use Rattle.elf_model.specs.Segments.{code_loads}
use Rattle.sample_model.specs.Moves.{LoadMap, branches_by, ranges_by}
use Rattle.profile_model.specs.Text.{profile_text}
use Rattle.report_model.specs.Report.{Sampled, report_text}
use Rattle.binary_model.specs.Binary.{units_in}
use Rattle.output_model.specs.Program.{Program, program_of}
use Rattle.output_model.specs.Sampled.{classes_of, profile_of}

-- The profile of a program and its samples, then the report on them.
unfoldable pub output_text : Program → Sampled → List ℕ
output_text program sampled =
    profile_text (profile_of program sampled) ++ report_text (classes_of program) sampled

-- What moves the addresses of a branch text, where the binary has a name in its load lines.
abbrev pub loading_of : Option (List ℕ) → List ℕ → Option LoadMap
loading_of name binary = option_map (λ name. record { name = name; segments = code_loads binary }) name

-- What the lines of a branch text sample of a binary, moved or as they stand.
abbrev pub sampled_by : Option LoadMap → List ℕ → List (List ℕ) → Sampled
sampled_by loading binary lines = record {
  branches = branches_by loading lines;
  ranges = ranges_by loading lines;
  units_read = length (units_in binary).units;
  units_passed = length (units_in binary).skipped;
}

-- What is written of a good binary and a good branch text.
abbrev pub profile_output : Option (List ℕ) → Bool → List ℕ → List ℕ → List ℕ
profile_output name base binary text =
    output_text (program_of binary base) (sampled_by (loading_of name binary) binary (lines_of text))
