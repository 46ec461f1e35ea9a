use Rattle.std.proofs.Common.{◌∙◌, ◌++◌, List, ℕ, ap}
use Rattle.profile_writer.specs.Profile.{lines_text}
use Rattle.report_model.specs.Report.{report_text}
use Rattle.cold_maker.proofs.sampled.text_of.Goals as goal

pub returns : goal.returns
returns c = λ classes sampled tells.
    c.in_ok-push_report.ensures.appended classes sampled tells
    ∙ ap (λ (t : List ℕ). t ++ report_text classes sampled)
    (c.in_ok-push_lines.ensures.appended ∙ ap (λ (t : List ℕ). t ++ lines_text c.args.made.now.placed.names c.args.made.now.profile) c.new-out.ensures.items)
