use Rattle.reading_laws.proofs.LoadLemmas.{unloaded-foreign}
use Rattle.reading_laws.proofs.laws.unloaded_is_foreign.Goals as goal

pub returns : goal.returns
returns c = unloaded-foreign
