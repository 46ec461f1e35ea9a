use Rattle.context_map.proofs.UsedLemmas.{added_if_ok}
use Rattle.context_map.proofs.key.key_of.Goals as goal

pub returns-clause-new : goal.returns-clause-new
returns-clause-new c = added_if_ok _ _ _ c.add.result c.add.ensures.added c.add.ensures.number c.add.ensures.one_more
