-- How `pgo-cold` answers what `profile` wrote, and the samples that this was made of.
use Rattle.std.specs.Prelude.{◌≡◌, ◌≤◌, ℕ, List, [], ◌∷◌, ◌++◌, length, Some}
use Rattle.io_edge.specs.Inputs.{Store}
use Rattle.text_model.specs.Lines.{lines_of}
use Rattle.report_model.specs.Report.{report_text}
use Rattle.output_model.specs.Output.{loading_of, sampled_by}
use Rattle.output_model.specs.Program.{program_of}
use Rattle.output_model.specs.Sampled.{classes_of}
use Rattle.command_model.specs.Answer.{answer_of_command, writes}
use Rattle.command_model.specs.Command.{cold, cold_profile, profile}
use Rattle.command_model.specs.Files.{IsOutput, file_at, max_profile_bytes}
use Rattle.command_model.specs.Options.{Options}

-- The report on the samples, of a binary and a branch text.
abbrev pub report_in : Options → List (List ℕ) → List ℕ
report_in options contents =
    report_text (classes_of (program_of (file_at 0 contents) options.base))
    (sampled_by (loading_of options.map (file_at 0 contents)) (file_at 0 contents) (lines_of (file_at 1 contents)))

-- Where `profile` may write a text that is no larger than a profile text can be, `pgo-cold` accepts that text with the
-- same binary, and it accepts the samples themselves. Of these it writes what it writes of the text, and then the
-- report.
abbrev pub ColdIsOfBoth : Type 0
ColdIsOfBoth =
    (files : Store) (options : Options) (bin perf out : List ℕ) (contents : List (List ℕ)) (text : List ℕ)
    → answer_of_command files (profile options bin perf) ≡ writes (profile options bin perf) contents
    → IsOutput (profile options bin perf) contents text → length text ≤ max_profile_bytes
    → files out ≡ Some text
    → (answer_of_command files (cold options bin out) ≡ writes (cold options bin out) (file_at 0 contents ∷ text ∷ []))
    × (answer_of_command files (cold_profile options bin perf) ≡ writes (cold_profile options bin perf) contents)
    × ((lines whole : List ℕ) → IsOutput (cold options bin out) (file_at 0 contents ∷ text ∷ []) lines
    → IsOutput (cold_profile options bin perf) contents whole → whole ≡ lines ++ report_in options contents)
