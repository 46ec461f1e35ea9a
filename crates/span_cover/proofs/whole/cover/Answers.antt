use Rattle.std.proofs.Common.{◌∙◌}
use Rattle.std.proofs.lemmas.Result.{IfOk-weaker}
use Rattle.span_cover.proofs.AskedLemmas.{asked-all}
use Rattle.span_cover.proofs.whole.cover.Goals as goal

pub returns-clause-owners : goal.returns-clause-owners
returns-clause-owners c =
    IfOk-weaker c.cover_asked.result _ _ (λ made owners a. owners a ∙ asked-all c.args.members.now a) c.cover_asked.ensures.owners
