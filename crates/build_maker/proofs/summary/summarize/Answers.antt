use Rattle.std.proofs.Common.{map}
use Rattle.std.proofs.lemmas.Result.{IfOk-weaker}
use Rattle.asked_laws.proofs.BuildLemmas.{summaries_ask_no_more}
use Rattle.cfg_text.specs.Fun.{function_of}
use Rattle.output_model.specs.Output.{sampled_by}
use Rattle.output_model.specs.Program.{program_of}
use Rattle.build_maker.proofs.summary.summarize.Goals as goal

pub returns : goal.returns
returns c =
    IfOk-weaker c.line_of.result _ _ (λ out summed file base loading lines is with_ranges tells.
    let sampled = sampled_by loading file lines in
    let like = c.in_ok-made.ensures.told file base loading lines is with_ranges tells in
    summaries_ask_no_more sampled like.program (program_of file base) (map function_of c.args.funs.now) out.items like.answers like.in_blocks
    (summed like.program sampled like.profiled)) c.line_of.ensures
