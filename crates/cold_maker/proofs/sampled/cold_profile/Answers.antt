use Rattle.std.proofs.lemmas.Result.{IfOk-weaker}
use Rattle.output_model.specs.Output.{sampled_by}
use Rattle.cold_maker.proofs.ColdLemmas.{sampled_is}
use Rattle.cold_maker.proofs.sampled.cold_profile.Goals as goal

pub returns : goal.returns
returns c =
    IfOk-weaker c.text_of.result _ _ (λ out spelled file base loading lines is with_ranges tells.
    let made = c.in_ok-made.ensures.told file base loading lines is with_ranges tells in
    sampled_is file base c.in_ok-made.made.placed made.0 (sampled_by loading file lines) c.in_ok-made.made.profile out.items made.1 spelled) c.text_of.ensures
