use Rattle.std.proofs.lemmas.Result.{IfOk-weaker}
use Rattle.profile_writer.proofs.OutputLemmas.{with_all}
use Rattle.profile_writer.proofs.profile.Profile.make_with_cold.Goals as goal

pub returns-clause-told : goal.returns-clause-told
returns-clause-told g c =
    IfOk-weaker c.with_known.result _ _
    (λ profile told program sampled shown rows. with_all program sampled _ c.args.keys.now c.args.segments.now _ _ c.len.ensures (told program sampled shown rows)) c.with_known.ensures.told
