use Rattle.std.proofs.Common.{map}
use Rattle.std.proofs.lemmas.Result.{IfOk-weaker}
use Rattle.asked_laws.proofs.BuildLemmas.{builds_ask_no_more}
use Rattle.cfg_text.specs.Fun.{function_of}
use Rattle.output_model.specs.Output.{sampled_by}
use Rattle.output_model.specs.Program.{program_of}
use Rattle.build_maker.proofs.builder.build.Goals as goal

pub returns : goal.returns
returns c =
    IfOk-weaker c.text_of.result _ _ (λ out built file base loading lines is with_ranges tells.
    let sampled = sampled_by loading file lines in
    let like = c.in_ok-profile.ensures.told file base loading lines is with_ranges tells in
    builds_ask_no_more c.args.options sampled like.program (program_of file base) (map function_of c.args.funs.now) out.items like.answers like.in_blocks
    (built like.program sampled like.profiled.profile like.profiled.tallied)) c.text_of.ensures
