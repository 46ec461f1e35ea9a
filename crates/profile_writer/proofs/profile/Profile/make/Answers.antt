use Rattle.std.proofs.lemmas.Result.{IfOk-weaker}
use Rattle.profile_writer.proofs.OutputLemmas.{with_none}
use Rattle.profile_writer.proofs.profile.Profile.make.Goals as goal

pub returns-clause-told : goal.returns-clause-told
returns-clause-told g c =
    IfOk-weaker c.with_known.result _ _ (λ profile told program sampled shown rows. with_none program sampled _ _ _ (told program sampled shown rows)) c.with_known.ensures.told
