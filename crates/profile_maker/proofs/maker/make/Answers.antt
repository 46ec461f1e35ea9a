use Rattle.std.proofs.Common.{◌∙◌}
use Rattle.std.proofs.lemmas.Result.{IfOk-weaker}
use Rattle.asked_laws.proofs.ReportLemmas.{profiles_ask_no_more}
use Rattle.output_model.specs.Output.{sampled_by}
use Rattle.output_model.specs.Program.{program_of}
use Rattle.profile_maker.proofs.maker.make.Goals as goal

pub returns : goal.returns
returns c =
    IfOk-weaker c.text_of.result _ _ (λ out spelled file base loading lines is with_ranges tells.
    let sampled = sampled_by loading file lines in
    let like = c.in_ok-made.ensures.told file base loading lines is with_ranges tells in
    spelled like.program sampled like.profiled ∙ profiles_ask_no_more sampled like.program (program_of file base) like.answers) c.text_of.ensures
