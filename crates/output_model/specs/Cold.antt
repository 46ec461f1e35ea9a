-- A profile in which the lines that never ran stand as well.
use Rattle.std.specs.Prelude.{ℕ, Bool, List, ◌++◌, Option}
use Rattle.std.specs.List.{filter_map}
use Rattle.text_model.specs.Lines.{lines_of as text_lines}
use Rattle.cold_model.specs.Cold.{cold_lines_of, standing_lines_of}
use Rattle.profile_model.specs.Profile.{Line, Profile}
use Rattle.profile_model.specs.Spelled.{spelled}
use Rattle.profile_model.specs.Text.{text_of_lines}
use Rattle.report_model.specs.Report.{Sampled, report_text}
use Rattle.output_model.specs.Output.{loading_of, sampled_by}
use Rattle.output_model.specs.Program.{Program, program_of, way_at}
use Rattle.output_model.specs.Sampled.{all_addresses, classes_of, profile_of}

-- The lines of a profile with one for each way of some addresses whose function stands there.
abbrev pub cold_lines_among : List ℕ → Program → Profile → List Line
cold_lines_among addresses program p = cold_lines_of (filter_map (way_at program) addresses) p

-- The lines of a profile with one for each way of an address of a program, where its function stands there.
-- Why: Each place of some address of the binary is a key: removed code has no line to be cold on.
unfoldable pub cold_lines : Program → Profile → List Line
cold_lines program p = cold_lines_among all_addresses program p

-- What is written of a good binary and a good profile text.
abbrev pub cold_output : Bool → List ℕ → List ℕ → List ℕ
cold_output base binary text = text_of_lines (cold_lines (program_of binary base) (spelled text))

-- The lines of the profile of a program and its samples, with one for each way of an address whose function stands
-- there.
unfoldable pub sampled_lines : Program → Sampled → List Line
sampled_lines program sampled =
    standing_lines_of (filter_map (way_at program) all_addresses) (profile_of program sampled)

-- The text of such lines of a program and its samples, then the report on the samples.
unfoldable pub sampled_text : Program → Sampled → List ℕ
sampled_text program sampled =
    text_of_lines (sampled_lines program sampled) ++ report_text (classes_of program) sampled

-- What is written of a good binary and a good branch text.
abbrev pub sampled_output : Option (List ℕ) → Bool → List ℕ → List ℕ → List ℕ
sampled_output name base binary text =
    sampled_text (program_of binary base) (sampled_by (loading_of name binary) binary (text_lines text))
