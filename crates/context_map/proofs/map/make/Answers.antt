use Rattle.std.proofs.lemmas.Result.{IfOk-weaker}
use Rattle.context_map.proofs.MapLemmas.{over-all}
use Rattle.context_map.proofs.map.make.Goals as goal

pub returns-clause-map : goal.returns-clause-map
returns-clause-map c =
    IfOk-weaker c.make_asked.result _ _ (λ map over. over-all _ _ _ _ map _ c.all-asked.ensures over) c.make_asked.ensures.map
