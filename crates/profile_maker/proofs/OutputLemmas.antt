-- What is written of a profile is its lines and the report.
use Rattle.std.proofs.Common.{◌≡◌, ℕ, List, [], ◌++◌, ap, ◌∙◌}
use Rattle.key_types.specs.declared.places.Seg.{Seg}
use Rattle.profile_model.specs.Text.{profile_text}
use Rattle.profile_report.specs.Told.{Tells}
use Rattle.report_model.specs.Report.{Classes, Sampled, report_text}
use Rattle.output_model.specs.Output.{output_text}
use Rattle.output_model.specs.Program.{Program}
use Rattle.output_model.specs.Sampled.{profile_of}
use Rattle.profile_writer.specs.Profile.{IsProfileOf, Parts, lines_text}

pub output_alike : (program : Program) (sampled : Sampled) (names : List (List ℕ)) (segments : List Seg) (parts : Parts) → IsProfileOf program sampled names segments parts
    → (none before after : List ℕ) → none ≡ [] → before ≡ none ++ lines_text names parts
    → ((classes : Classes) (s : Sampled) → Tells classes s parts.branches parts.ranges parts.units → after ≡ before ++ report_text classes s)
    → after ≡ output_text program sampled
unfolding output_text
output_alike program sampled names segments parts is none before after none_is before_is after_is =
    after_is is.classes sampled is.classed
    ∙ ap (λ (t : List ℕ). t ++ report_text is.classes sampled) (before_is ∙ ap (λ (t : List ℕ). t ++ lines_text names parts) none_is ∙ is.written)
    ∙ ap (λ (t : List ℕ). profile_text (profile_of program sampled) ++ t) is.reported
